-- The instance of a solved scheme in an area, whether it is normal, and whether a member generalizes it.
use Prim.Native.Nat.{ℕ, ◌+◌, ◌*◌, ◌<◌, ◌≤◌}
use mathlib.Core.Path.{◌≡◌, refl, sym, ap, ap₂, subst, ◌∙◌}
use mathlib.Core.Bool.{Bool, true, false}
use Rattle.std.specs.Prelude.{None}
use lib.ListN.{length}
use native.Mathlib.Omega.{arith}
use Rattle.rules.specs.Tree.{Tree, size, count}
use Rattle.rules.specs.Sums.{equivalent}
use Rattle.rules.specs.Reduction.{normalize}
use Rattle.rules.specs.Variants.{generalized}
use Rattle.laws.specs.Schemes.{Judgement, pending, settled, judge_tests, judge}
use Rattle.laws.proofs.Reduction.Sizes.{normalize_size}
use Rattle.tree.specs.declared.area.Area.{Area}
use Rattle.tree.specs.Areas.{tree_in, trees_in, KeepsCells, Grows}
use Rattle.tree.proofs.Keeping.{adds_grows, grows_then, grows_keeps, grows_length, grows_tree, grows_trees}
use Rattle.reduction.specs.Areas.{Becomes, InstanceRoom}
use Rattle.substitution.specs.Areas.{bindings_in, instance_in, Places, BuildsTreeIn}
use Rattle.substitution.specs.declared.instances.Built.{Built}
use Rattle.variables.specs.Areas.{names_in, SolutionIn}
use Rattle.variables.specs.declared.pairing.Solution.{Solution}
use Rattle.variables.proofs.Listed.{names_count}
use Rattle.families.specs.Generalizing.{AllMatched}
use Rattle.families.specs.Areas.{variants_in, AllMatchedIn}
use Rattle.families.proofs.Generals.{all_matched_same}
use Rattle.complete.specs.Areas.{Asks, InstanceMatched}
use Rattle.complete.specs.declared.judging.Question.{Question}
use Rattle.complete.proofs.Judgements.{judge_over, judge_there}
use Rattle.complete.proofs.JudgingIn.{names_kept, members_kept, asks_kept}

-- what a question makes of a solved scheme
abbrev pub judged_in : Area → Question → ℕ → ℕ → Judgement
judged_in a q value bindings = judge (names_in a q.names) (variants_in a q.members) (bindings_in a bindings) (tree_in a value) pending

pub over_judged : {a b : Area} (q : Question) (value bindings : ℕ) → BuildsTreeIn a b 4096 0 (instance_in a bindings value) None → settled None ≡ judged_in a q value bindings
over_judged {a} q value bindings h = sym (judge_over (names_in a q.names) (variants_in a q.members) (bindings_in a bindings) (tree_in a value) h.0)

module _ {a b : Area} (q : Question) (value bindings : ℕ) {built : Built} (k : Asks a q) (bb : bindings < a.free) (one : Places a b 4096 0 (instance_in a bindings value) built) where
  abbrev made : Tree
  made = instance_in a bindings value

  made_small : size made ≤ 4096
  made_small = omega (arith, one.spent)

  start : Grows a b
  start = adds_grows one.puts.adds

  module _ {d : Area} {normal : ℕ} (two : Becomes b d (size (tree_in b built.index)) 0 (normalize (tree_in b built.index)) normal) where
    made_now : tree_in d built.index ≡ made
    made_now = grows_tree two.grows built.index one.puts.inside one.puts.some_cell ∙ one.puts.tree

    normal_now : tree_in d normal ≡ normalize made
    normal_now = two.tree ∙ ap normalize one.puts.tree

    sizes_few : (size (tree_in d built.index) ≤ 4096) × (size (tree_in d normal) ≤ 4096) × (d.free ≤ a.free + 8192)
    sizes_few = let n = normalize_size made in (omega (arith, made_small, ap size made_now), omega (arith, made_small, n, ap size normal_now), omega (arith, made_small, ap size one.puts.tree, one.used, two.used))

    pub solved_small : (5 * size (tree_in d built.index) < 65536) × (5 * size (tree_in d normal) < 65536)
    solved_small = let s = sizes_few in (omega (arith, s.0), omega (arith, s.1))

    pub solved_room : InstanceRoom a → 4 * d.free + 15 * (size (tree_in d built.index) + size (tree_in d normal)) ≤ length d.work.now
    solved_room r = let s = sizes_few in omega (arith, r.0, s.0, s.1, s.2, grows_length (grows_then start two.grows))

    normal_is : (r : Bool) → r ≡ equivalent (tree_in d built.index) (tree_in d normal) → equivalent made (normalize made) ≡ r
    normal_is r e = sym (e ∙ ap₂ equivalent made_now normal_now)

    -- the instance is not normal
    pub not_normal : (r : Bool) → r ≡ equivalent (tree_in d built.index) (tree_in d normal) → r ≡ false → pending ≡ judged_in a q value bindings
    not_normal r e f =
        sym (judge_there (names_in a q.names) (variants_in a q.members) (bindings_in a bindings) (tree_in a value) made_small
        ∙ ap (λ (x : Bool). judge_tests x (generalized (names_in a q.names) (variants_in a q.members) (bindings_in a bindings) made)) (normal_is r e ∙ f))

    -- it is, and the members are gone through, the normal form given back
    module _ {f : Area} (keeps : KeepsCells b f) where
      all : Grows a f
      all = grows_then start (grows_keeps keeps)

      bindings_now : trees_in f bindings ≡ trees_in a bindings
      bindings_now = grows_trees all bindings bb

      instance_now : tree_in f built.index ≡ made
      instance_now = grows_tree (grows_keeps keeps) built.index one.puts.inside one.puts.some_cell ∙ one.puts.tree

      abbrev solution : Solution
      solution = record { names = q.names; bindings = bindings }

      pub search_solution : SolutionIn f solution
      search_solution = record { names = (asks_kept all q k).names; bindings = omega (arith, bb, all.grew) }

      pub search_matched : InstanceMatched a q value bindings → AllMatchedIn f q.members solution built.index
      search_matched h =
          let c = names_count a.sheet.now a.work.now q.names k.names.variables in
          let m : AllMatched a.sheet.now f.work.now (f.free + 2 + 2 * count (trees_in a q.names)) (names_in a q.names) (bindings_in a bindings) made (trees_in a q.members) =
          all_matched_same a.sheet.now a.work.now f.work.now (a.free + 4098 + 2 * length (names_in a q.names)) (f.free + 2 + 2 * count (trees_in a q.names)) (names_in a q.names) (bindings_in a bindings) made (trees_in a q.members)
          (grows_length all) (omega (arith, one.used, keeps.end, c)) h
          in
          let n = subst (λ s. AllMatched s.now f.work.now (f.free + 2 + 2 * count (trees_in a q.names)) (names_in a q.names) (bindings_in a bindings) made (trees_in a q.members)) (sym all.lent.sheet) m in
          rw (names_kept all q k, members_kept all q k, bindings_now, instance_now) n

      pub searched : (r g : Bool) → r ≡ equivalent (tree_in d built.index) (tree_in d normal) → r ≡ true
          → g ≡ generalized (names_in f q.names) (variants_in f q.members) (bindings_in f bindings) (tree_in f built.index) → judge_tests true g ≡ judged_in a q value bindings
      searched r g e t y =
          let z : g ≡ generalized (names_in a q.names) (variants_in a q.members) (bindings_in a bindings) made = y ∙ rw (names_kept all q k, members_kept all q k, bindings_now, instance_now) refl in
          sym (judge_there (names_in a q.names) (variants_in a q.members) (bindings_in a bindings) (tree_in a value) made_small ∙ ap₂ judge_tests (normal_is r e ∙ t) (sym z))
