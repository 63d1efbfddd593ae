-- Lists one after the other in an area, a tree with its children, and a value before later ones.
use Prim.Native.Nat.{ℕ, suc, ◌+◌, ◌<◌, ◌≤◌}
use native.Mathlib.Omega.{arith}
use native.Mathlib.Decide.{dec_lt}
use mathlib.Core.Path.{◌≡◌, refl, sym, ap, ap₂, ◌∙◌, subst}
use mathlib.Core.Logic.{◌⊎◌, inl, inr}
use Rattle.std.specs.Prelude.{Option}
use Rattle.rules.specs.declared.Sort.{Sort}
use Rattle.rules.specs.Tree.{Tree, apply, Trees, more, count}
use Rattle.tree.specs.Cells.{kind_of}
use Rattle.tree.specs.declared.area.Area.{Area}
use Rattle.tree.specs.declared.kinds.Kind.{Kind}
use Rattle.tree.specs.declared.kinds.Kind.TheVariants.{Application, Variable, Atom}
use Rattle.tree.specs.Areas.{cell_kind, next_in, name_in, tree_in, trees_in, Pushes}
use Rattle.tree.proofs.Decoding.{trees_none}
use Rattle.tree.proofs.Keeping.{grows_same, adds_then, adds_grows, grows_trees}
use Rattle.tree.proofs.Lists.{list_more}
use Rattle.tree.proofs.ByKind.{application_kind, number_application}
use Rattle.substitution.specs.Areas.{Puts}
use Rattle.tree.specs.Lists.{Lists}
use Rattle.substitution.proofs.Listing.{lists_same, lists_push, lists_tree}
use Rattle.reduction.specs.Areas.{Becomes}
use Rattle.laws.specs.Schemes.{root_count}
use Rattle.schemes.specs.Choices.{over, appended, ways_of}
use Rattle.schemes.specs.Making.{AppendsIn, FollowsIn}
use Rattle.schemes.specs.declared.firing.Chosen.{Chosen}
use Rattle.schemes.proofs.Counts.{leaf_over, leaf_ways, node_over, node_ways}
use Rattle.schemes.proofs.Equations.{appended_none}

-- a list by its first cell
module _ (a : Area) (k : ℕ) (p : 0 < k) (q : k < a.free) where
  pub list_count : count (trees_in a k) ≡ 1 + count (trees_in a (next_in a k))
  list_count = ap count (list_more a k p q refl) ∙ (let f : suc (count (trees_in a (next_in a k))) ≡ 1 + count (trees_in a (next_in a k)) = omega arith in f)

-- one list before another
module _ (a : Area) (x y : ℕ) where
  pub appends_second : x ≡ 0 → y < a.free → AppendsIn a a x y y
  unfolding appended
  appends_second e q = record {
    lists = subst (Lists a a y) (sym (ap (λ (ts : Trees). appended ts (trees_in a y)) (trees_none a.sheet.now a.work.now x e))) (lists_same a y q);
    used = omega arith;
    first_none = λ f. (refl, refl);
    second_none = λ f. (refl, f ∙ sym e);
  }

  pub appends_first : 0 < x → x < a.free → y ≡ 0 → AppendsIn a a x y x
  appends_first p q e = record {
    lists = subst (Lists a a x) (sym (ap (appended (trees_in a x)) (trees_none a.sheet.now a.work.now y e) ∙ appended_none (trees_in a x))) (lists_same a x q);
    used = omega arith;
    first_none = λ f. absurd (omega arith);
    second_none = λ f. (refl, refl);
  }

  pub appends_more : {m b : Area} {i k : ℕ} (j : ℕ) → 0 < x → x < a.free → 0 < y → j ≡ next_in a x → AppendsIn a m j y i → Pushes m b k i (tree_in m x) → AppendsIn a b x y k
  unfolding appended
  appends_more {m} {b} {i} {k} j p q r f g h =
      let t = lists_tree x p q g.lists in
      let parts : trees_in a x ≡ more (tree_in a x) (trees_in a j) = list_more a x p q f in
      record {
        lists = subst (Lists a b k) (ap (λ (u : Tree). more u (appended (trees_in a j) (trees_in a y))) t ∙ sym (ap (λ (ts : Trees). appended ts (trees_in a y)) parts)) (lists_push g.lists h);
        used = omega (arith, g.used, h.end, list_count a x p q, ap (λ (l : ℕ). count (trees_in a l)) f);
        first_none = λ z. absurd (omega arith);
        second_none = λ z. absurd (omega arith);
      }

-- a cell by its kind
module _ (a : Area) (k : ℕ) (us : Trees) where
  not_application : (cell_kind a k ≡ Application → ⊥) → 0 < kind_of a.work.now k
  not_application h = elim (dec_lt 0 (kind_of a.work.now k)) [ yes p ↦ p | no p ↦ absurd (h (application_kind (kind_of a.work.now k) (omega arith))) ]

  pub over_leaf : (cell_kind a k ≡ Application → ⊥) → over (tree_in a k) us ≡ tree_in a k
  over_leaf h = leaf_over a.sheet.now a.work.now k us (not_application h)

  pub ways_leaf : (cell_kind a k ≡ Application → ⊥) → ways_of (over (tree_in a k) us) ≡ 1
  ways_leaf h = leaf_ways a.sheet.now a.work.now k us (not_application h)

  pub over_node : cell_kind a k ≡ Application → over (tree_in a k) us ≡ apply (name_in a k) us
  over_node e = node_over a.sheet.now a.work.now k us (number_application (kind_of a.work.now k) e)

  pub ways_node : cell_kind a k ≡ Application → ways_of (over (tree_in a k) us) ≡ root_count (name_in a k) us
  ways_node e = node_ways a.sheet.now a.work.now k us (number_application (kind_of a.work.now k) e)

pub leaf_kind : (k : Kind) → ((x : Option Sort) × (k ≡ Variable x)) ⊎ ((x : ℕ) × (k ≡ Atom x)) → k ≡ Application → ⊥
leaf_kind k (inl e) h = let f = sym h ∙ e.1 in absurd cc
leaf_kind k (inr e) h = let f = sym h ∙ e.1 in absurd cc

-- a tree that stays
pub keeps_leaf : {a : Area} {t : Tree} (i : ℕ) → 0 < i → i < a.free → t ≡ tree_in a i → Becomes a a 1 (next_in a i) t i
keeps_leaf {a} {t} i p q e = record {
  grows = grows_same a;
  used = omega arith;
  some_cell = p;
  inside = q;
  tree = sym e;
  trees = list_more a i p q refl ∙ ap (λ (u : Tree). more u (trees_in a (next_in a i))) (sym e);
}

pub becomes_as : {a b : Area} {n next i : ℕ} {t u : Tree} → u ≡ t → Becomes a b n next t i → Becomes a b n next u i
becomes_as {a} {b} {n} {next} {i} e h = subst (λ (v : Tree). Becomes a b n next v i) (sym e) h

-- a value put before later ones
pub follows : {a m b : Area} {v c : ℕ} {rest : Chosen} (value equations : ℕ) → equations < a.free → rest.equations < a.free
    → Puts a m v rest.values (tree_in a value) → m.free ≤ a.free + 1 → AppendsIn m b equations rest.equations c
    → FollowsIn a b value equations rest (record { values = v; equations = c; left = rest.left })
follows {a} {m} {b} {v} {c} {rest} value equations q r x u y =
    let g = adds_grows x.adds in
    let e = grows_trees g equations q in
    let f = grows_trees g rest.equations r in
    record {
      adds = adds_then x.adds y.lists.adds;
      used = omega (arith, y.used, u, ap count e);
      values = record { inside = omega (arith, x.inside, y.lists.adds.grew); trees = grows_trees (adds_grows y.lists.adds) v x.inside ∙ x.trees };
      list = record { inside = y.lists.inside; trees = y.lists.trees ∙ ap₂ appended e f };
      left = refl;
      first_none = λ z. (omega (arith, (y.first_none z).0, u), (y.first_none z).1);
      second_none = λ z. (omega (arith, (y.second_none z).0, u), (y.second_none z).1);
    }
