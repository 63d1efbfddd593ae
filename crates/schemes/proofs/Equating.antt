-- Equations before others in an area, and what a rule makes.
use Prim.Native.Nat.{ℕ, ◌+◌, ◌<◌, ◌≤◌}
use mathlib.Core.Path.{◌≡◌, refl, sym, ap, ◌∙◌, subst}
use mathlib.Core.List.{List, ◌∷◌}
use native.Mathlib.Omega.{arith}
use Rattle.std.specs.Prelude.{Some}
use Rattle.rules.specs.Bytes.{Text}
use Rattle.rules.specs.Tree.{Tree, apply, Trees, none, more}
use Rattle.rules.specs.Substitution.{Pair, flatten}
use Rattle.rules.specs.declared.Rule.TheVariants.{Flip}
use Rattle.rules.specs.Reduction.{rule_named, constant}
use Rattle.rules.specs.Variants.{Scheme, scheme, with_one, with_two}
use Rattle.laws.specs.Schemes.{root_at}
use Rattle.tree.specs.declared.area.Area.{Area}
use Rattle.tree.specs.Areas.{next_in, tree_in, trees_in, Adds, Pushes}
use Rattle.tree.proofs.Keeping.{adds_then, adds_grows, adds_push, grows_next, grows_tree, grows_trees, pushed_some, pushed_inside, pushed_tree}
use Rattle.substitution.specs.Areas.{Puts}
use Rattle.tree.specs.Lists.{Lists}
use Rattle.schemes.specs.Choices.{joined_as}
use Rattle.tree.specs.declared.fixed.Fixed.TheVariants.{RoleA, RoleB}
use Rattle.schemes.specs.declared.firing.Fired.{Fired}
use Rattle.tree.specs.Names.{fixed_text}
use Rattle.schemes.specs.Making.{FiredIn}
use Rattle.schemes.proofs.Counts.{with_one_few, with_two_few}
use Rattle.schemes.proofs.Firings.{one_child, two_children, flip_at}
use Rattle.schemes.proofs.Leaves.{no_trees}

-- a pair put before a list, after other cells were written
module _ {a m : Area} (g : Adds a m) (i : ℕ) (p : 0 < i) (q : i < a.free) where
  pub pair_later : {b : Area} {k : ℕ} {t : Tree} {ts : Trees} (j list : ℕ) → tree_in m j ≡ t → trees_in m list ≡ ts → Lists m b k (more (tree_in m i) (more (tree_in m j) (trees_in m list)))
      → Lists a b k (more (tree_in a i) (more t ts))
  pair_later j list e f h = record { adds = adds_then g h.adds; inside = h.inside; trees = h.trees ∙ (rw (grows_tree (adds_grows g) i q p, e, f)) }

  pub pair_on : {b : Area} {k : ℕ} {ts : Trees} (j list : ℕ) → 0 < j → j < a.free → trees_in m list ≡ ts → Lists m b k (more (tree_in m i) (more (tree_in m j) (trees_in m list)))
      → Lists a b k (more (tree_in a i) (more (tree_in a j) ts))
  pair_on j list p₁ q₁ f h = pair_later j list (grows_tree (adds_grows g) j q₁ p₁) f h

-- a rule with one equation, whose value is a tree of before
pub fired_one : {a b : Area} {k : ℕ} {l r : Tree} {es : List Pair} (list v n : ℕ) → 0 < v → v < a.free → trees_in a list ≡ flatten es → Lists a b k (more l (more r (trees_in a list))) → b.free ≡ a.free + 5
    → FiredIn a b (scheme (tree_in a v) ((l, r) ∷ es) n) (record { value = v; equations = k; next = n })
unfolding flatten
fired_one {l = l} {r = r} list v n p q e h f = record {
  adds = h.adds;
  used = omega (arith, f);
  value = record { some_cell = p; inside = omega (arith, h.adds.grew); tree = grows_tree (adds_grows h.adds) v q p };
  equations = record { inside = h.inside; trees = h.trees ∙ ap (λ (ts : Trees). more l (more r ts)) e };
  next = refl;
}

-- with two equations, after a pattern was written
pub fired_two : {a m b : Area} {k pattern : ℕ} {t : Tree} {es : List Pair} (list i y v n : ℕ) → Puts a m pattern 0 t → m.free ≤ a.free + 4 → 0 < i → i < a.free → 0 < y → y < a.free → 0 < v → v < a.free
    → 0 < next_in a i → list < a.free → trees_in a list ≡ flatten es
    → Lists m b k (more (tree_in m i) (more (tree_in m pattern) (more (tree_in m (next_in m i)) (more (tree_in m y) (trees_in m list))))) → b.free ≡ m.free + 4
    → FiredIn a b (scheme (tree_in a v) ((tree_in a i, t) ∷ (tree_in a (next_in a i), tree_in a y) ∷ es) n) (record { value = v; equations = k; next = n })
unfolding flatten
fired_two {a} {m} {b} {k} {pattern} {t} {es} list i y v n g u p q p₁ q₁ p₂ q₂ o r e h f =
    let w = adds_grows g.adds in
    let x = adds_then g.adds h.adds in
    let key : tree_in m (next_in m i) ≡ tree_in a (next_in a i) = ap (tree_in m) (grows_next w i q) ∙ grows_tree w (next_in a i) (omega (arith, a.arena.links.next i p q)) o in
    record {
      adds = x;
      used = omega (arith, f, u);
      value = record { some_cell = p₂; inside = omega (arith, x.grew); tree = grows_tree (adds_grows x) v q₂ p₂ };
      equations = record { inside = h.inside; trees = h.trees ∙ (rw (grows_tree w i q p, g.tree, key, grows_tree w y q₁ p₁, grows_trees w list r, e)) };
      next = refl;
    }

-- the two roles
pub fired_roles : {a m d b : Area} {v pattern k : ℕ} {es : List Pair} (f g : Text) (list i n : ℕ) → 0 < i → i < a.free → list < a.free → trees_in a list ≡ flatten es
    → Pushes a m v 0 (apply f (trees_in a 0)) → Pushes m d pattern 0 (apply g (trees_in m 0)) → Lists d b k (more (tree_in d i) (more (tree_in d pattern) (trees_in d list))) → b.free ≡ d.free + 2
    → FiredIn a b (scheme (constant f) ((tree_in a i, constant g) ∷ es) n) (record { value = v; equations = k; next = n })
unfolding flatten
fired_roles {a} {m} {d} {b} {v} {pattern} {k} {es} f g list i n p q r e x y h u =
    let xs = adds_then (adds_push x) (adds_push y) in
    let later = adds_then (adds_push y) h.adds in
    let w = adds_grows xs in
    record {
      adds = adds_then xs h.adds;
      used = omega (arith, u, x.end, y.end);
      value = record {
        some_cell = pushed_some x;
        inside = omega (arith, pushed_inside x, later.grew);
        tree = grows_tree (adds_grows later) v (pushed_inside x) (pushed_some x) ∙ pushed_tree x ∙ ap (apply f) (no_trees a);
      };
      equations = record { inside = h.inside; trees = h.trees ∙ (rw (grows_tree w i q p, pushed_tree y ∙ ap (apply g) (no_trees m), grows_trees w list r, e)) };
      next = refl;
    }

pub fired_as : {a b : Area} {x y : Scheme} {r : Fired} → x ≡ y → FiredIn a b y r → FiredIn a b x r
fired_as {a} {b} {r = r} e h = subst (λ (z : Scheme). FiredIn a b z r) (sym e) h

-- the children that a rule with a choice has
module _ (a : Area) (i c : ℕ) (q : i < a.free) (p : 0 < c) where
  pub one_in : (k : ℕ) → c < 1 + with_one k (trees_in a i) → (0 < i) × (trees_in a i ≡ more (tree_in a i) none) × (c < k + 1)
  one_in k h =
      let x = one_child a.sheet.now a.arena.links k i q (omega arith) in
      (x.0, x.1, omega (arith, with_one_few k (trees_in a i)))

  pub two_in : c < 1 + with_two 1 (trees_in a i) → (0 < i) × (0 < next_in a i) × (trees_in a i ≡ more (tree_in a i) (more (tree_in a (next_in a i)) none)) × (c < 2)
  two_in h =
      let x = two_children a.sheet.now a.arena.links 1 i q (omega arith) in
      (x.0, x.1, x.2, omega (arith, with_two_few 1 (trees_in a i)))

-- the two choices of a role
module _ (name : ℕ → Text) (f : Text) (es : List Pair) (n : ℕ) {c : ℕ} {ts : Trees} (a : Tree) (e : rule_named f ≡ Some Flip) (g : ts ≡ more a none) where
  pub flip_first : c ≡ 1 → root_at name f (joined_as ts es n) c ≡ scheme (constant (fixed_text RoleB)) ((a, constant (fixed_text RoleA)) ∷ es) n
  flip_first h = ap (root_at name f (joined_as ts es n)) h ∙ flip_at name f es n 1 a e g (omega arith) (omega arith)

  pub flip_second : c ≡ 2 → root_at name f (joined_as ts es n) c ≡ scheme (constant (fixed_text RoleA)) ((a, constant (fixed_text RoleB)) ∷ es) n
  flip_second h = ap (root_at name f (joined_as ts es n)) h ∙ flip_at name f es n 2 a e g (omega arith) (omega arith)
