-- The pairs of a sheet unified in an area, and the members matched after that.
use Prim.Native.Nat.{ℕ, ◌+◌, ◌*◌, ◌-◌, ◌<◌, ◌≤◌, ◌^◌}
use mathlib.Core.Path.{◌≡◌, refl, sym, ap, subst, ◌∙◌}
use mathlib.Core.Bool.{Bool}
use mathlib.Core.List.{List, map}
use Rattle.std.specs.Prelude.{Option, Some, None, Ok, Err}
use lib.ListN.{length}
use native.Mathlib.Omega.{arith}
use Rattle.rules.specs.Bytes.{Text}
use Rattle.rules.specs.Text.{count_of}
use Rattle.rules.specs.Maybe.{every}
use Rattle.rules.specs.Tree.{Trees, count, sizes}
use Rattle.rules.specs.Substitution.{Pair, size_pairs}
use Rattle.rules.specs.Solving.{solved, failed, unsupported, Answer, unify}
use Rattle.laws.specs.Memory.{OverPairs}
use Rattle.rules.specs.Cover.{variables_of, pair_at, any_covers}
use Rattle.rules.specs.Sheet.{Member, words_needed}
use Rattle.tree.specs.declared.area.Area.{Area}
use Rattle.tree.specs.Areas.{trees_in, Grows}
use Rattle.tree.proofs.Keeping.{grows_then, grows_length, grows_trees}
use Rattle.substitution.specs.Areas.{bindings_in}
use Rattle.forms.specs.Members.{members_at}
use Rattle.elimination.specs.Stack.{pairs_of, Whole, FitPairs}
use Rattle.elimination.specs.Area.{Room}
use Rattle.steps.proofs.Fitting.{pairs_fit}
use Rattle.unifier.specs.Matched.{Matched}
use Rattle.elimination.specs.Areas.{pairs_in}
use Rattle.elimination.specs.Fronts.{StackIn}
use Rattle.unifier.specs.Areas.{NamesFew, spared_end, AnswersIn, HoldsBound, EndsIn}
use Rattle.rules.specs.declared.Ending.{Ending}
use Rattle.rules.specs.declared.Ending.TheVariants.{Failed, Unsupported}
use Rattle.substitution.specs.Answers.{verdict_in}
use Rattle.substitution.specs.declared.answer.Answer.{Answer as Answered}
use Rattle.variables.specs.Areas.{names_in, SolutionIn}
use Rattle.values.specs.Areas.{PairsRoomIn}
use Rattle.cover.specs.Areas.{CoverInputIn, NamesIn, AllMatchableIn, CoversAnyIn, ClaimsCoveredIn}
use Rattle.cover.proofs.Rooms.{run_end, asked_nodes, asked_few, asked_names, asked_colons, asked_over, asked_matched}
use Rattle.cover.proofs.Solutions.{covered_by}
use Rattle.variables.proofs.Listed.{names_count, variables_grown}

module _ {a b : Area} {stack at names : ℕ} (p : stack < a.free) (k : CoverInputIn a stack at) (h : NamesIn a b stack names) where
  abbrev ps : List Pair
  ps = pairs_in a stack

  stack_kept : trees_in b stack ≡ trees_in a stack
  stack_kept = grows_trees h.grows stack p

  many : count (trees_in b names) ≡ length (variables_of ps)
  many = names_count b.sheet.now b.work.now names h.names.variables ∙ ap (λ (l : List Text). length l) h.are

  colons : count_of 58 b.sheet.now ≡ count_of 58 a.sheet.now
  colons = ap (λ s. count_of 58 s.now) h.grows.lent.sheet

  pub nodes_inside : (stack < b.free) × (sizes (trees_in b stack) < 2 ^ 64)
  nodes_inside = (omega (arith, h.used), omega (arith, ap sizes stack_kept, asked_nodes k, asked_few k, k.short))

  pub run_stack : StackIn b stack
  run_stack = (nodes_inside.0, subst Whole (sym stack_kept) k.whole, subst (λ (ts : Trees). FitPairs (pairs_of ts)) (sym stack_kept) (pairs_fit k.entries ps k.pairs))

  module _ (nodes c : ℕ) (n : nodes ≡ sizes (trees_in b stack)) (d : c ≡ count_of 58 b.sheet.now) where
    nodes_are : nodes ≡ size_pairs ps
    nodes_are = n ∙ ap sizes stack_kept ∙ asked_nodes k

    colons_are : c ≡ count_of 58 a.sheet.now
    colons_are = d ∙ colons

    pub run_counts : (nodes ≡ sizes (trees_in b stack)) × NamesFew c (pairs_in b stack)
    run_counts =
        let (ns, l, o) = asked_over k in
        (n, record { names = ns; over = subst (λ (ts : Trees). OverPairs ns (pairs_of ts)) (sym stack_kept) o; few = omega (arith, l, colons_are) })

    pub run_room : Room b.work.now (spared_end b.free nodes 65536 c)
    unfolding words_needed
    run_room =
        let l = grows_length h.grows in (
          omega (arith, nodes_are, colons_are, l, k.words, h.used, many, asked_names k, asked_few k, k.used, k.inside),
          omega (arith, nodes_are, colons_are, h.used, many, asked_names k, asked_colons k, asked_few k, k.used, k.inside, k.short),
        )

    module _ {e : Area} {r : Answered} (y : AnswersIn b e (unify 65536 (pairs_in b stack)) r) where
      all_grows : Grows a e
      all_grows = grows_then h.grows y.grows

      verdict_is : (unify 65536 ps).0 ≡ verdict_in e r.verdict
      verdict_is = ap (λ (ts : Trees). (unify 65536 (pairs_of ts)).0) (sym stack_kept) ∙ ap (λ (x : Answer). x.0) y.is

      -- the pairs are not solved
      pub unsolved : {x : Ending} → r.verdict ≡ Err x → ClaimsCoveredIn a e stack at None
      unsolved {x} o = record { grows = all_grows; claim = λ ms f. sym (covered_by ps ms (verdict_is ∙ ap (verdict_in e) o) ∙ none x ms) }
        where
          none : (x : Ending) (ms : List Member)
              → ◌≡◌ {A = Option Bool} (elim (verdict_in e (Err x)) [ solved bs ↦ Some (any_covers (variables_of ps) bs ms) | failed ↦ None | unsupported ↦ None ]) None
          none Failed ms = refl
          none Unsupported ms = refl

      -- they are solved
      module _ (bindings : ℕ) (v : r.verdict ≡ Ok bindings) (z : EndsIn e r.verdict (spared_end b.free nodes 65536 c)) where
        is_solved : (unify 65536 ps).0 ≡ solved (bindings_in e bindings)
        is_solved = verdict_is ∙ ap (verdict_in e) v

        top_few : e.free ≤ run_end at (length (variables_of ps)) (size_pairs ps) (count_of 58 a.sheet.now)
        top_few = let f : e.free ≤ spared_end b.free nodes 65536 c = subst (λ w. EndsIn e w (spared_end b.free nodes 65536 c)) v z in omega (arith, f, nodes_are, colons_are, h.used, many, k.used)

        names_there : trees_in e names ≡ trees_in b names
        names_there = grows_trees y.grows names h.names.inside

        names_are : names_in e names ≡ variables_of ps
        names_are = rw names_there h.are

        names_many : count (trees_in e names) ≡ length (variables_of ps)
        names_many = ap count names_there ∙ many

        pub solution_there : SolutionIn e (record { names = names; bindings = bindings })
        solution_there = record {
          names = variables_grown y.grows h.names;
          bindings = (subst (λ w. HoldsBound e w) v y.bound).inside;
        }

        same_length : length e.sheet.now ≡ length a.sheet.now
        same_length = ap (λ s. length s.now) all_grows.lent.sheet

        pub all_room : PairsRoomIn e names
        unfolding words_needed
        all_room =
            let i = top_few in
            let j = names_many in
            let l = asked_names k in
            let m = asked_colons k in
            let n = asked_few k in
            let s = same_length in
            let z = grows_length all_grows in
            (omega (arith, k.words, k.short, k.inside), omega (arith, k.short, k.inside))

        pub all_matchable : AllMatchableIn e (record { names = names; bindings = bindings }) at
        all_matchable =
            let w = grows_length all_grows in
            record {
              members = k.members;
              reads = ap (λ s. members_at s.now at) all_grows.lent.sheet ∙ k.later;
              matched = λ m l qs f. (
                  let i : e.free + 2 * (length e.sheet.now - at) + 2 * count (trees_in e names) ≡ e.free + 2 * (length a.sheet.now - at) + 2 * length (variables_of ps) = omega (arith, same_length, names_many) in
                  let g = asked_matched k (bindings_in e bindings) is_solved e.free top_few w (e.free + 2 * (length e.sheet.now - at) + 2 * count (trees_in e names)) i m l qs
                  (ap (λ (xs : List Text). every (map (pair_at (bindings_in e bindings) m) xs)) (sym names_are) ∙ f)
                  in
                  subst (λ s. Matched s.now e.work.now (e.free + 2 * (length e.sheet.now - at) + 2 * count (trees_in e names)) qs) (sym all_grows.lent.sheet) g
                  );
            }

        pub claimed : {g : Area} (q : Bool) → CoversAnyIn e g (record { names = names; bindings = bindings }) at q → ClaimsCoveredIn a g stack at (Some q)
        claimed q x = record {
          grows = grows_then all_grows x.1;
          claim = λ ms f. ap Some (x.0 ms (ap (λ s. members_at s.now at) all_grows.lent.sheet ∙ f) ∙ ap (λ (xs : List Text). any_covers xs (bindings_in e bindings) ms) names_are) ∙ sym (covered_by ps ms is_solved);
        }
