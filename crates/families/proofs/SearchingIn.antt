-- The members of an area's list one after the other: those before a cell do not generalize.
use Prim.Native.Nat.{ℕ, ◌<◌}
use mathlib.Core.Path.{◌≡◌, refl, sym, ap, subst, ◌∙◌}
use mathlib.Core.Bool.{Bool, true, false}
use mathlib.Core.List.{List}
use native.Mathlib.Omega.{arith}
use Rattle.rules.specs.Tree.{Trees, more, count}
use Rattle.rules.specs.Substitution.{Pair}
use Rattle.rules.specs.Cover.{covering}
use Rattle.rules.specs.Variants.{generalized}
use Rattle.tree.specs.declared.area.Area.{Area}
use Rattle.tree.specs.Areas.{next_in, tree_in, trees_in, CellIn, KeepsCells}
use Rattle.tree.proofs.Decoding.{trees_none, trees_more}
use Rattle.tree.proofs.Keeping.{keeps_then, grows_keeps, grows_length, grows_next, grows_tree, grows_trees}
use Rattle.substitution.specs.Areas.{bindings_in}
use Rattle.variables.specs.Areas.{names_in, SolutionIn}
use Rattle.variables.specs.declared.pairing.Solution.{Solution}
use Rattle.unifier.specs.Matched.{Matched}
use Rattle.families.specs.Generalizing.{variants_of, member_pairs, IsMember, AllMatched}
use Rattle.families.specs.Areas.{variants_in, general_pairs_in, pairs_end, MatchedIn, AllMatchedIn}
use Rattle.families.proofs.Generals.{matched_same}

-- from a on, the members before cell k do not generalize
pub record SearchingIn (a b : Area) (s : Solution) (value members k : ℕ) : Type 0 where
  pub keeps : KeepsCells a b
  pub left : k < a.free
  pub are : generalized (names_in a s.names) (variants_in a members) (bindings_in a s.bindings) (tree_in a value) ≡ generalized (names_in a s.names) (variants_in a k) (bindings_in a s.bindings) (tree_in a value)
  pub matched : AllMatchedIn a k s value

module _ {a b : Area} {s : Solution} {value members k : ℕ} (o : SolutionIn a s) (v : CellIn a value) (h : SearchingIn a b s value members k) where
  abbrev found : ℕ → Bool
  found j = generalized (names_in a s.names) (variants_in a j) (bindings_in a s.bindings) (tree_in a value)

  pub searching_ends : k ≡ 0 → false ≡ found members
  unfolding generalized variants_of
  searching_ends e = sym (h.are ∙ ap (λ (ts : Trees). generalized (names_in a s.names) (variants_of ts) (bindings_in a s.bindings) (tree_in a value)) (trees_none a.sheet.now a.work.now k e))

  module _ (p : 0 < k) where
    parts : trees_in a k ≡ more (tree_in a k) (trees_in a (next_in a k))
    parts = trees_more a.sheet.now a.arena.links k p h.left

    list_now : (j : ℕ) → j < a.free → trees_in b j ≡ trees_in a j
    list_now j l = grows_trees (grows_keeps h.keeps) j l

    tree_now : (j : ℕ) → 0 < j → j < a.free → tree_in b j ≡ tree_in a j
    tree_now j x y = grows_tree (grows_keeps h.keeps) j y x

    pairs_now : general_pairs_in b k s value ≡ general_pairs_in a k s value
    pairs_now = rw (list_now s.names o.names.inside, list_now s.bindings o.bindings, tree_now k p h.left, tree_now value v.0 v.1) refl

    its : IsMember (tree_in a k) × MatchedIn a k s value
        × AllMatched a.sheet.now a.work.now (pairs_end a s.names) (names_in a s.names) (bindings_in a s.bindings) (tree_in a value) (trees_in a (next_in a k))
    its = subst (AllMatched a.sheet.now a.work.now (pairs_end a s.names) (names_in a s.names) (bindings_in a s.bindings) (tree_in a value)) parts h.matched

    pub here_member : IsMember (tree_in b k)
    here_member = subst IsMember (sym (tree_now k p h.left)) its.0

    pub here_matched : MatchedIn b k s value
    here_matched =
        let c = ap count (list_now s.names o.names.inside) in
        let e = h.keeps.end in
        let m : Matched a.sheet.now b.work.now (pairs_end b s.names) (general_pairs_in b k s value) =
        subst (λ (qs : List Pair). Matched a.sheet.now b.work.now (pairs_end b s.names) qs) (sym pairs_now) (matched_same (grows_length (grows_keeps h.keeps)) (omega arith) its.1)
        in
        subst (λ t. Matched t.now b.work.now (pairs_end b s.names) (general_pairs_in b k s value)) (sym h.keeps.lent.sheet) m

    step : (x : Bool) → x ≡ covering (general_pairs_in b k s value) → found members ≡ elim x [ true ↦ true | false ↦ found (next_in a k) ]
    unfolding generalized variants_of member_pairs
    step x e =
        h.are ∙ ap (λ (ts : Trees). generalized (names_in a s.names) (variants_of ts) (bindings_in a s.bindings) (tree_in a value)) parts
        ∙ ap {B = Bool} (λ (x : Bool). elim x [ true ↦ true | false ↦ found (next_in a k) ]) (ap covering (sym pairs_now) ∙ sym e)

    pub searching_found : true ≡ covering (general_pairs_in b k s value) → true ≡ found members
    searching_found y = sym (step true y)

    pub searching_turn : {d : Area} (j : ℕ) → false ≡ covering (general_pairs_in b k s value) → KeepsCells b d → j ≡ next_in d k → SearchingIn a d s value members j
    searching_turn {d} j y g f =
        let keeps = keeps_then h.keeps g in
        let e : j ≡ next_in a k = f ∙ grows_next (grows_keeps keeps) k h.left in
        let l = a.arena.links.next k p h.left in
        record {
          keeps = keeps;
          left = omega (arith, h.left);
          are = step false y ∙ ap found (sym e);
          matched = subst (λ (i : ℕ). AllMatchedIn a i s value) (sym e) its.2;
        }
