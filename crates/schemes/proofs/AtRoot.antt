-- The choice at the root of a cell of an area, after those of its children.
use Prim.Native.Nat.{ℕ, ◌+◌, ◌/◌, ◌%◌, ◌<◌}
use native.Mathlib.Nat.{div-one, div-eq_of_lt, div-lt_iff_lt-mul, mod-eq_of_lt}
use native.Mathlib.Omega.{arith}
use mathlib.Core.Path.{◌≡◌, refl, sym, ap, ap₂, ◌∙◌, subst}
use mathlib.Core.List.{List}
use mathlib.Core.Logic.{inl, inr}
use Rattle.std.specs.Prelude.{Some}
use Rattle.rules.specs.Bytes.{Text}
use Rattle.rules.specs.Tree.{Tree, variable, atom, apply, Trees, children}
use Rattle.rules.specs.Substitution.{Pair, flatten}
use Rattle.rules.specs.declared.Rule.{Rule}
use Rattle.rules.specs.Reduction.{rule_named}
use Rattle.rules.specs.Variants.{Scheme, scheme, firing_count, root_schemes}
use Rattle.laws.specs.Schemes.{root_at}
use Rattle.tree.specs.declared.area.Area.{Area}
use Rattle.tree.specs.declared.kinds.Kind.TheVariants.{Application}
use Rattle.tree.specs.Areas.{cell_kind, name_in, tree_in, trees_in}
use Rattle.tree.proofs.Keeping.{adds_grows, grows_trees}
use Rattle.reduction.specs.Areas.{Becomes}
use Rattle.schemes.specs.Choices.{over, ways_of, root_of, joined_as, Shared}
use Rattle.schemes.specs.Areas.{Has, HasList}
use Rattle.schemes.specs.Making.{RootReadyIn, ChosenRootIn, FiredIn}
use Rattle.schemes.specs.declared.firing.Draw.{Draw}
use Rattle.schemes.specs.declared.firing.Chosen.{Chosen}
use Rattle.schemes.specs.declared.firing.Fired.{Fired}
use Rattle.schemes.proofs.Dividing.{rest_positive}
use Rattle.schemes.proofs.Firings.{count_of}
use Rattle.schemes.proofs.Lining.{over_node, ways_node}

pub root_stay : (name : ℕ → Text) (t : Tree) (es : List Pair) (n : ℕ) → root_of name t (joined_as (children t) es n) 0 ≡ scheme t es n
unfolding root_of root_at root_schemes children
root_stay name (variable x) es n = refl
root_stay name (atom c d) es n = refl
root_stay name (apply f ts) es n = refl

pub root_apply : (name : ℕ → Text) (f : Text) (ts : Trees) (es : List Pair) (n c : ℕ) → root_of name (apply f ts) (joined_as (children (apply f ts)) es n) c ≡ root_at name f (joined_as ts es n) c
unfolding root_of children
root_apply name f ts es n c = refl

pub choice_below : (k ways index : ℕ) → Shared k ways index → index / (ways / k) < k
choice_below k ways index h = (div-lt_iff_lt-mul (rest_positive h)).1 (subst (λ (m : ℕ). index < m) h.whole h.below)

module _ {a : Area} {fresh : ℕ} {below : Chosen} {i : ℕ} (d : RootReadyIn a fresh below i) {k : ℕ} (e : k ≡ ways_of (over (tree_in a i) (trees_in a below.values))) where
  abbrev here : Tree
  here = over (tree_in a i) (trees_in a below.values)

  left_is : below.left.ways / k ≡ below.left.ways / ways_of here
  left_is = ap (λ (m : ℕ). below.left.ways / m) e

  choice_is : below.left.index / (below.left.ways / k) ≡ below.left.index / (below.left.ways / ways_of here)
  choice_is = ap (λ (m : ℕ). below.left.index / m) left_is

  index_is : below.left.index % (below.left.ways / k) ≡ below.left.index % (below.left.ways / ways_of here)
  index_is = ap (λ (m : ℕ). below.left.index % m) left_is

  -- what is left of the draw
  abbrev left_by : ℕ → Draw
  left_by n = record { next = n; index = below.left.index % (below.left.ways / k); ways = below.left.ways / k }

  pub root_stays : {b : Area} {j next : ℕ} (name : ℕ → Text) → below.left.index / (below.left.ways / k) ≡ 0 → Becomes a b 1 next here j → (es : List Pair) → trees_in a below.equations ≡ flatten es
      → ChosenRootIn a b name below here es (record { values = j; equations = below.equations; left = left_by below.left.next })
  root_stays {b} {j} name z x es h =
      let g : root_of name here (joined_as (children here) es below.left.next) (below.left.index / (below.left.ways / ways_of here)) ≡ scheme here es below.left.next =
      ap (root_of name here (joined_as (children here) es below.left.next)) (sym choice_is ∙ z) ∙ root_stay name here es below.left.next in
      let list : HasList b below.equations (flatten es) = record { inside = omega (arith, d.equations, x.grows.grew); trees = grows_trees x.grows below.equations d.equations ∙ h } in
      record {
        grows = x.grows;
        used = omega (arith, x.used);
        value = subst (λ (y : Scheme). Has b j y.value) (sym g) (record { some_cell = x.some_cell; inside = x.inside; tree = x.tree });
        equations = subst (λ (y : Scheme). HasList b below.equations (flatten y.equations)) (sym g) list;
        next = sym (ap (λ (y : Scheme). y.next) g);
        ways = left_is;
        index = index_is;
        cells = inl (x.used, refl);
      }

  -- where another choice is made
  module _ (p : 0 < below.left.index / (below.left.ways / k)) where
    many_ways : 1 < ways_of here
    many_ways = omega (arith, p, choice_is, choice_below (ways_of here) below.left.ways below.left.index d.shared)

    module _ {r : Rule} (q : cell_kind a i ≡ Application) (o : rule_named (name_in a i) ≡ Some r) where
      pub choice_inside : below.left.index / (below.left.ways / k) < 1 + firing_count (Some r) (trees_in a below.values)
      choice_inside =
          omega (
            arith,
            choice_is,
            choice_below (ways_of here) below.left.ways below.left.index d.shared,
            ways_node a i (trees_in a below.values) q,
            count_of (name_in a i) (trees_in a below.values) (Some r) o,
          )

      pub root_fires : {b : Area} {x : Fired} (name : ℕ → Text)
          → ((es : List Pair) → trees_in a below.equations ≡ flatten es → FiredIn a b (root_at name (name_in a i) (joined_as (trees_in a below.values) es below.left.next) (below.left.index / (below.left.ways / k))) x)
          → (es : List Pair) → trees_in a below.equations ≡ flatten es → ChosenRootIn a b name below here es (record { values = x.value; equations = x.equations; left = left_by x.next })
      root_fires {b} {x} name h es z =
          let n = over_node a i (trees_in a below.values) q in
          let g : root_of name here (joined_as (children here) es below.left.next) (below.left.index / (below.left.ways / ways_of here))
          ≡ root_at name (name_in a i) (joined_as (trees_in a below.values) es below.left.next) (below.left.index / (below.left.ways / k)) =
          ap (root_of name here (joined_as (children here) es below.left.next)) (sym choice_is)
          ∙ ap (λ (t : Tree). root_of name t (joined_as (children t) es below.left.next) (below.left.index / (below.left.ways / k))) n
          ∙ root_apply name (name_in a i) (trees_in a below.values) es below.left.next (below.left.index / (below.left.ways / k)) in
          let y = h es z in
          record {
            grows = adds_grows y.adds;
            used = y.used;
            value = subst (λ (w : Scheme). Has b x.value w.value) (sym g) y.value;
            equations = subst (λ (w : Scheme). HasList b x.equations (flatten w.equations)) (sym g) y.equations;
            next = y.next ∙ sym (ap (λ (w : Scheme). w.next) g);
            ways = left_is;
            index = index_is;
            cells = inr many_ways;
          }

-- no rule: nothing is drawn
pub root_alone : {a : Area} {fresh : ℕ} {below : Chosen} {i : ℕ} (d : RootReadyIn a fresh below i) → 1 ≡ ways_of (over (tree_in a i) (trees_in a below.values))
    → {b : Area} {j next : ℕ} (name : ℕ → Text) → Becomes a b 1 next (over (tree_in a i) (trees_in a below.values)) j → (es : List Pair) → trees_in a below.equations ≡ flatten es
    → ChosenRootIn a b name below (over (tree_in a i) (trees_in a below.values)) es (record { values = j; equations = below.equations; left = below.left })
root_alone {a} {below = below} {i = i} d e {b} {j} name x es h =
    let l = below.left in
    let m = div-one l.ways in
    let z : l.index / (l.ways / 1) ≡ 0 = ap (λ (w : ℕ). l.index / w) m ∙ div-eq_of_lt d.shared.below in
    let y : l.index % (l.ways / 1) ≡ l.index = ap (λ (w : ℕ). l.index % w) m ∙ mod-eq_of_lt d.shared.below in
    subst (λ (w : Draw). ChosenRootIn a b name below (over (tree_in a i) (trees_in a below.values)) es (record { values = j; equations = below.equations; left = w }))
    (ap₂ (λ (u v : ℕ). (let w : Draw = record { next = l.next; index = u; ways = v } in w)) y m)
    (root_stays d e name z x es h)
