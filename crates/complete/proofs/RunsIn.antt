-- The run over the system of a scheme in an area, and what the scheme decides.
use Prim.Native.Nat.{ℕ, ◌+◌, ◌*◌, ◌<◌, ◌≤◌, ◌^◌}
use mathlib.Core.Path.{◌≡◌, refl, sym, ap, ap₂, subst, ◌∙◌}
use mathlib.Core.Logic.{◌⊎◌, inl, inr}
use mathlib.Core.List.{List}
use Rattle.std.specs.Prelude.{Option, Some, None, Ok, Err}
use lib.ListN.{length}
use native.Mathlib.Omega.{arith}
use Rattle.rules.specs.Bytes.{Text}
use Rattle.rules.specs.Tree.{Tree, sizes}
use Rattle.rules.specs.Substitution.{Pair, instantiate, size_pairs}
use Rattle.rules.specs.Solving.{Verdict, Answer, unify}
use Rattle.laws.specs.Memory.{OverPairs}
use Rattle.laws.specs.Schemes.{scheme_at, pending, judge, judge_verdict}
use Rattle.laws.proofs.Solving.Budget.{flatten_size}
use Rattle.tree.specs.declared.area.Area.{Area}
use Rattle.tree.specs.Areas.{tree_in, trees_in, Grows}
use Rattle.tree.proofs.Keeping.{grows_then, grows_length, grows_tree}
use Rattle.substitution.specs.Areas.{bindings_in}
use Rattle.reduction.specs.Areas.{InstanceRoom}
use Rattle.schemes.specs.Areas.{FreshIn, SystemIn}
use Rattle.schemes.specs.declared.systems.System.{System}
use Rattle.elimination.specs.Stack.{FitPairs}
use Rattle.elimination.specs.Area.{Room}
use Rattle.elimination.proofs.Tops.{pairs_are, whole_are}
use Rattle.rules.specs.declared.Ending.TheVariants.{Failed, Unsupported}
use Rattle.substitution.specs.Answers.{verdict_in}
use Rattle.substitution.specs.declared.answer.Answer.{Answer as Answered}
use Rattle.elimination.specs.Areas.{pairs_in}
use Rattle.elimination.specs.Fronts.{StackIn}
use Rattle.unifier.specs.Areas.{NamesFew, spared_end, AnswersIn, EndsIn}
use Rattle.variables.specs.Areas.{names_in}
use Rattle.families.specs.Generalizing.{AllMatched}
use Rattle.families.specs.Areas.{variants_in}
use Rattle.families.proofs.Generals.{all_matched_same}
use Rattle.complete.specs.Judging.{fuel_for, system_of, solved_end}
use Rattle.complete.specs.Areas.{judged_as, judgement_in, Asks, InstanceMatched, CanJudgeIn, DecidesIn, JudgesIn}
use Rattle.complete.specs.declared.judging.Judged.{Judged}
use Rattle.complete.specs.declared.judging.Judged.TheVariants.{Pending, Missing, Over}
use Rattle.complete.specs.declared.judging.Question.{Question}
use Rattle.complete.proofs.Rooms.{fuel_few}
use Rattle.complete.proofs.Judgements.{fit_built, enough_unify}
use Rattle.complete.proofs.JudgingIn.{names_kept, members_kept, asks_kept}

module _ {a b : Area} {q : Question} {i : ℕ} (asks : Asks a q) (k : CanJudgeIn a q i) {c : System} (y : (name : ℕ → Text) → FreshIn a q.schemes.fresh name → SystemIn a b name i (tree_in a q.schemes.term) c) where
  its : SystemIn a b k.name i (tree_in a q.schemes.term) c
  its = y k.name k.cells

  abbrev ps : List Pair
  ps = system_of k.name (tree_in a q.schemes.term) i

  pairs : pairs_in b c.stack ≡ ps
  pairs = pairs_are ps its.stack.trees

  system_nodes : sizes (trees_in b c.stack) ≡ size_pairs ps
  system_nodes = ap sizes its.stack.trees ∙ flatten_size ps

  pub stack_inside : (c.stack < b.free) × (sizes (trees_in b c.stack) < 2 ^ 64)
  stack_inside = let r = k.scheme.room in (its.stack.inside, omega (arith, r.1, system_nodes))

  pub run_stack : StackIn b c.stack
  run_stack = (its.stack.inside, whole_are ps its.stack.trees, subst FitPairs (sym pairs) k.scheme.fit)

  module _ (nodes fuel : ℕ) (n : nodes ≡ sizes (trees_in b c.stack)) where
    nodes_are : nodes ≡ size_pairs ps
    nodes_are = n ∙ system_nodes

    pub enough_bound : nodes + 4096 * q.named < 4294967296
    enough_bound = let r = k.scheme.room in omega (arith, r.1, nodes_are)

    module _ (d : fuel ≡ fuel_for nodes q.named) where
      fuel_is : fuel ≡ fuel_for (size_pairs ps) q.named
      fuel_is = d ∙ ap (λ (x : ℕ). fuel_for x q.named) nodes_are

      pub fuel_most : fuel ≤ 65536
      fuel_most = omega (arith, d, (fuel_few nodes q.named).0)

      pub run_counts : (nodes ≡ sizes (trees_in b c.stack)) × NamesFew q.named (pairs_in b c.stack)
      run_counts = (n, record { names = k.scheme.names; over = subst (OverPairs k.scheme.names) (sym pairs) k.scheme.over; few = k.scheme.few })

      end_few : spared_end b.free nodes fuel q.named ≤ solved_end k.name a.free (tree_in a q.schemes.term) q.named i
      end_few = omega (arith, nodes_are, fuel_is, its.used)

      pub run_room : Room b.work.now (spared_end b.free nodes fuel q.named)
      run_room = let r = k.scheme.room in (omega (arith, r.0, end_few, grows_length its.grows), omega (arith, r.1, end_few))

      module _ {e : Area} {r : Answered} (g : AnswersIn b e (unify fuel (pairs_in b c.stack)) r) where
        all_grows : Grows a e
        all_grows = grows_then its.grows g.grows

        verdict_is : (unify 65536 ps).0 ≡ verdict_in e r.verdict
        verdict_is =
            sym (ap (λ (x : Answer). x.0) (enough_unify k.scheme.names ps nodes q.named k.scheme.over (fit_built ps k.scheme.fit) nodes_are k.scheme.few))
            ∙ ap (λ (x : ℕ). (unify x ps).0) (sym d) ∙ ap (λ (x : List Pair). (unify fuel x).0) (sym pairs) ∙ ap (λ (x : Answer). x.0) g.is

        module _ (before : Judged) where
          -- a scheme decides the same by all names that its cells have
          by_names : (o : Option Judged) → DecidesIn a q k.name i before o → (other : ℕ → Text) → FreshIn a q.schemes.fresh other → DecidesIn a q other i before o
          by_names o h other f =
              let z = y other f in
              h ∙ ap₂ (λ (t : Tree) (xs : List Pair). judge_verdict (names_in a q.names) (variants_in a q.members) t (unify 65536 xs).0 (judged_as before)) (sym its.value.tree ∙ z.value.tree)
              (sym pairs ∙ pairs_are (system_of other (tree_in a q.schemes.term) i) z.stack.trees)

          decides_by : (o : Option Judged) {v : Verdict} → verdict_in e r.verdict ≡ v → judgement_in o ≡ judge_verdict (names_in a q.names) (variants_in a q.members) (scheme_at k.name (tree_in a q.schemes.term) 0 i).value v (judged_as before)
              → DecidesIn a q k.name i before o
          decides_by o f h = h ∙ ap (λ (v : Verdict). judge_verdict (names_in a q.names) (variants_in a q.members) (scheme_at k.name (tree_in a q.schemes.term) 0 i).value v (judged_as before)) (sym (verdict_is ∙ f))

          pub judged_unsupported : r.verdict ≡ Err Unsupported → JudgesIn a e q i before None
          judged_unsupported v = record { grows = all_grows; decides = by_names None (decides_by None (ap (verdict_in e) v) refl) }

          pub judged_failed : r.verdict ≡ Err Failed → JudgesIn a e q i before (Some before)
          judged_failed v = record { grows = all_grows; decides = by_names (Some before) (decides_by (Some before) (ap (verdict_in e) v) refl) }

          module _ (bindings : ℕ) (v : r.verdict ≡ Ok bindings) where
            settled_stays : (j : Judged) → (j ≡ Missing) ⊎ (j ≡ Over) → judged_as j ≡ judge (names_in a q.names) (variants_in a q.members) (bindings_in e bindings) (scheme_at k.name (tree_in a q.schemes.term) 0 i).value (judged_as j)
            unfolding judge
            settled_stays j (inl f) = rw f refl
            settled_stays j (inr f) = rw f refl

            pub judged_settled : (before ≡ Missing) ⊎ (before ≡ Over) → JudgesIn a e q i before (Some before)
            judged_settled o = record { grows = all_grows; decides = by_names (Some before) (decides_by (Some before) (ap (verdict_in e) v) (ap Some (settled_stays before o))) }

            pub solved_asks : Asks e q
            solved_asks = asks_kept all_grows q asks

            value_now : tree_in e c.value ≡ (scheme_at k.name (tree_in a q.schemes.term) 0 i).value
            value_now = grows_tree g.grows c.value its.value.inside its.value.some_cell ∙ its.value.tree

            -- what the solved scheme decides
            pub judged_solved : {f : Area} {o : Judged} → before ≡ Pending
                → judged_as o ≡ judge (names_in e q.names) (variants_in e q.members) (bindings_in e bindings) (tree_in e c.value) pending → Grows e f → JudgesIn a f q i before (Some o)
            judged_solved {f} {o} p h z =
                let x : judged_as o ≡ judge (names_in a q.names) (variants_in a q.members) (bindings_in e bindings) (scheme_at k.name (tree_in a q.schemes.term) 0 i).value (judged_as before) =
                h ∙ rw (names_kept all_grows q asks, members_kept all_grows q asks, value_now, p) refl
                in
                record { grows = grows_then all_grows z; decides = by_names (Some o) (decides_by (Some o) (ap (verdict_in e) v) (ap Some x)) }

            module _ (z : EndsIn e r.verdict (spared_end b.free nodes fuel q.named)) where
              solved_few : e.free ≤ solved_end k.name a.free (tree_in a q.schemes.term) q.named i
              solved_few = let f : e.free ≤ spared_end b.free nodes fuel q.named = subst (λ w. EndsIn e w (spared_end b.free nodes fuel q.named)) v z in omega (arith, f, end_few)

              pub solved_room : InstanceRoom e
              solved_room = let r = k.scheme.room in (omega (arith, r.0, solved_few, grows_length all_grows), omega (arith, r.1, solved_few))

              pub solved_matched : InstanceMatched e q c.value bindings
              solved_matched =
                  let n = solved_end k.name a.free (tree_in a q.schemes.term) q.named i + 4098 + 2 * length (names_in a q.names) in
                  let t = instantiate (bindings_in e bindings) (scheme_at k.name (tree_in a q.schemes.term) 0 i).value in
                  let m : AllMatched a.sheet.now e.work.now (e.free + 4098 + 2 * length (names_in a q.names)) (names_in a q.names) (bindings_in e bindings) t (trees_in a q.members) =
                  all_matched_same a.sheet.now a.work.now e.work.now n (e.free + 4098 + 2 * length (names_in a q.names)) (names_in a q.names) (bindings_in e bindings) t (trees_in a q.members) (grows_length all_grows) (omega (arith, solved_few))
                  (k.scheme.matched (bindings_in e bindings) (verdict_is ∙ ap (verdict_in e) v))
                  in
                  let s = subst (λ s. AllMatched s.now e.work.now (e.free + 4098 + 2 * length (names_in a q.names)) (names_in a q.names) (bindings_in e bindings) t (trees_in a q.members)) (sym all_grows.lent.sheet) m in
                  rw (names_kept all_grows q asks, members_kept all_grows q asks, value_now) s
