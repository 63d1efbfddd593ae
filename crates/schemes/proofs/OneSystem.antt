-- The scheme of one term of an area, and its system.
use Prim.Native.Nat.{ℕ, zero, suc, ◌+◌, ◌*◌, ◌/◌, ◌<◌, ◌≤◌}
use native.Mathlib.Nat.{mul-one, div-one, div-eq_of_eq-mul_right}
use native.Mathlib.Omega.{arith}
use mathlib.Core.Path.{◌≡◌, refl, sym, ap, ap₂, ◌∙◌, subst}
use mathlib.Core.List.{[], ◌∷◌, ◌++◌}
use Rattle.std.proofs.lemmas.List.{append-nil}
use Rattle.rules.specs.Bytes.{Text}
use Rattle.rules.specs.Tree.{Tree, Trees, none, more, count, size, sizes}
use Rattle.rules.specs.Substitution.{flatten}
use Rattle.rules.specs.Variants.{Scheme, scheme_count, scheme_counts}
use Rattle.laws.specs.Schemes.{scheme_at, joined_at}
use Rattle.laws.specs.Memory.{sites, sites_in}
use Rattle.laws.proofs.Variants.Sites.{sites_few}
use Rattle.tree.specs.declared.area.Area.{Area}
use Rattle.tree.specs.Areas.{tree_in, trees_in, Grows, Pushes, CellIn, HasRoom}
use Rattle.tree.proofs.Keeping.{grows_then, grows_push, adds_then, adds_grows, grows_tree, pushed_inside, pushed_trees}
use Rattle.tree.specs.Lists.{Lists}
use Rattle.tree.proofs.Lists.{list_more}
use Rattle.substitution.proofs.Chains.{head_more, none_more}
use Rattle.schemes.specs.Choices.{appended, Shared}
use Rattle.schemes.specs.Areas.{Has, HasList, FreshIn, SomeFreshIn, SystemIn}
use Rattle.schemes.specs.Making.{ReadyIn, ChoosesIn, AppendsIn}
use Rattle.schemes.specs.declared.firing.Draw.{Draw}
use Rattle.schemes.specs.declared.firing.Chosen.{Chosen}
use Rattle.schemes.proofs.Bounds.{scheme_fits}
use Rattle.schemes.proofs.Leaves.{no_trees}
use Rattle.schemes.proofs.Lasting.{has_later, list_later, fresh_later, named_later}
use Rattle.schemes.proofs.Equations.{flatten_append, count_flatten}
use Rattle.schemes.proofs.Counts.{count_positive}

-- a list of one term
pub one_ways : (t : Tree) (c : ℕ) → c ≡ scheme_count t → c / scheme_counts (more t none) ≡ 1
unfolding scheme_counts
one_ways t c e = div-eq_of_eq-mul_right (count_positive' t) (e ∙ sym (mul-one (scheme_count t)) ∙ sym (mul-one (scheme_count t * 1)))
  where
    count_positive' : (t : Tree) → 0 < scheme_count t * 1
    count_positive' t = omega (arith, count_positive t)

pub one_scheme : (name : ℕ → Text) (t : Tree) (i : ℕ) → ((joined_at name (more t none) 0 i).values ≡ more (scheme_at name t 0 i).value none) × ((joined_at name (more t none) 0 i).equations ≡ (scheme_at name t 0 i).equations)
unfolding joined_at scheme_counts
one_scheme name t i =
    let e = ap (scheme_at name t 0) (div-one i) in
    (ap (λ (x : Scheme). more x.value none) e, ap (λ (x : Scheme). x.equations ++ []) e ∙ append-nil (scheme_at name t 0 i).equations)

-- the first tree of a list that has one
first_has : (a : Area) (k : ℕ) {t : Tree} {ts : Trees} → HasList a k (more t ts) → Has a k t
first_has a zero h = absurd (none_more (sym (no_trees a) ∙ h.trees))
first_has a (suc k) h = record { some_cell = omega arith; inside = h.inside; tree = head_more (sym (list_more a (suc k) (omega arith) h.inside refl) ∙ h.trees) }

-- the term alone, in cell k of m
module _ {a m : Area} {fresh k : ℕ} (term c i : ℕ) (names : SomeFreshIn a fresh) (tree : CellIn a term × (size (tree_in a term) ≤ 4096))
    (index : (c ≡ scheme_count (tree_in a term)) × (c ≤ 4096) × (i < c))
    (room : HasRoom a (2 * size (tree_in a term) + 1024)) (x : Pushes a m k 0 (tree_in a term)) where
  abbrev t₀ : Tree
  t₀ = tree_in a term

  -- the draw of the index among all
  abbrev draw : Draw
  draw = record { next = 0; index = i; ways = c }

  list_is : trees_in m k ≡ more t₀ none
  list_is = pushed_trees x ∙ ap (more t₀) (no_trees a)

  sizes_is : sizes (trees_in m k) ≡ size t₀
  unfolding size
  sizes_is = ap sizes list_is ∙ (let e : size t₀ + 0 ≡ size t₀ = omega arith in e)

  sites_is : sites_in (trees_in m k) ≡ sites t₀
  unfolding sites
  sites_is = ap sites_in list_is ∙ (let e : sites t₀ + 0 ≡ sites t₀ = omega arith in e)

  twelve : sites t₀ ≤ 12
  twelve = sites_few t₀ (omega (arith, index.0, index.1))

  one_shared : Shared (scheme_counts (more t₀ none)) c i
  unfolding scheme_counts
  one_shared = record {
    whole = index.0 ∙ sym (mul-one (scheme_count t₀)) ∙ sym (ap (λ (k : ℕ). scheme_count t₀ * 1 * k) (one_ways t₀ c index.0) ∙ mul-one (scheme_count t₀ * 1));
    below = index.2;
  }

  pub ready_term : ReadyIn m fresh draw k
  ready_term =
      let g = grows_push x in
      record {
        named = named_later g names;
        inside = pushed_inside x;
        small = omega (arith, sizes_is, tree.1);
        shared = subst (λ (ts : Trees). Shared (scheme_counts ts) c i) (sym list_is) one_shared;
        names = omega (arith, sites_is, twelve);
        room = omega (arith, sizes_is, sites_is, twelve, room.0, g.below.len, x.end);
        bits = omega (arith, sizes_is, sites_is, twelve, room.1, x.end);
      }

  module _ {u : Area} (name : ℕ → Text) (f : FreshIn a fresh name) (r : Chosen) (y : (name : ℕ → Text) → FreshIn m fresh name → ChoosesIn m u name draw (trees_in m k) r) where
    abbrev the_scheme : Scheme
    the_scheme = scheme_at name t₀ 0 i

    chosen_list : ChoosesIn m u name draw (trees_in m k) r
    chosen_list = y name (fresh_later (grows_push x) f)

    chosen : ChoosesIn m u name draw (more t₀ none) r
    chosen = subst (λ (ts : Trees). ChoosesIn m u name draw ts r) list_is chosen_list

    index_is : i / (c / scheme_counts (more t₀ none)) ≡ i
    index_is = ap (λ (k : ℕ). i / k) (one_ways t₀ c index.0) ∙ div-one i

    values_are : HasList u r.values (more the_scheme.value none)
    values_are = record { inside = chosen.values.inside; trees = chosen.values.trees ∙ ap (λ (k : ℕ). (joined_at name (more t₀ none) 0 k).values) index_is ∙ (one_scheme name t₀ i).0 }

    equations_are : HasList u r.equations (flatten the_scheme.equations)
    equations_are = record {
      inside = chosen.equations.inside;
      trees = chosen.equations.trees ∙ ap (λ (k : ℕ). flatten (joined_at name (more t₀ none) 0 k).equations) index_is ∙ ap flatten (one_scheme name t₀ i).1;
    }

    value_is : Has u r.values the_scheme.value
    value_is = first_has u r.values values_are

    term_grows : Grows a u
    term_grows = grows_then (grows_push x) chosen_list.grows

    term_used : u.free ≤ a.free + 2 * size t₀ + 800
    term_used = omega (arith, x.end, chosen_list.used, sizes_is, sites_is, twelve)

    pub value_cells : CellIn u r.values × CellIn u r.values × (0 < u.free)
    value_cells = ((value_is.some_cell, value_is.inside), (value_is.some_cell, value_is.inside), u.arena.links.some)

    pub term_inside : term < u.free
    term_inside = omega (arith, tree.0.1, term_grows.grew)

    pub more_room : HasRoom u 100
    more_room = (omega (arith, term_used, term_grows.below.len, room.0), omega (arith, term_used, room.1))

    -- the value, and then the term, beside itself
    module _ {u₁ u₂ : Area} {k₁ k₂ : ℕ} (d₁ : Lists u u₁ k₁ (more (tree_in u r.values) (more (tree_in u r.values) (trees_in u 0)))) (f₁ : u₁.free ≡ u.free + 2)
        (d₂ : Lists u₁ u₂ k₂ (more (tree_in u₁ term) (more (tree_in u₁ term) (trees_in u₁ k₁)))) (f₂ : u₂.free ≡ u₁.free + 2) where
      later : Grows u u₂
      later = adds_grows (adds_then d₁.adds d₂.adds)

      all_grows : Grows a u₂
      all_grows = grows_then term_grows later

      term_is : tree_in u₁ term ≡ t₀
      term_is = grows_tree (grows_then term_grows (adds_grows d₁.adds)) term tree.0.1 tree.0.0

      last_list : HasList u₂ k₂ (flatten ((t₀, t₀) ∷ (the_scheme.value, the_scheme.value) ∷ []))
      unfolding flatten
      last_list = record { inside = d₂.inside; trees = d₂.trees ∙ (rw (term_is, d₁.trees, value_is.tree, no_trees u)) }

      equations_later : HasList u₂ r.equations (flatten the_scheme.equations)
      equations_later = list_later later equations_are

      copied : count (trees_in u₂ r.equations) ≤ 48
      copied = omega (arith, ap count equations_later.trees, count_flatten the_scheme.equations, (scheme_fits name t₀ 0 i).equations, twelve)

      pub stack_lists : (r.equations < u₂.free) × (k₂ < u₂.free)
      stack_lists = (equations_later.inside, d₂.inside)

      pub stack_room : HasRoom u₂ (count (trees_in u₂ r.equations))
      stack_room = (omega (arith, copied, f₂, f₁, term_used, all_grows.below.len, room.0), omega (arith, copied, f₂, f₁, term_used, room.1))

      pub systems : {b : Area} {j : ℕ} → AppendsIn u₂ b r.equations k₂ j → SystemIn a b name i t₀ (record { value = r.values; stack = j })
      systems g = record {
        grows = grows_then all_grows (adds_grows g.lists.adds);
        used = omega (arith, g.used, copied, f₂, f₁, term_used);
        value = has_later (adds_grows g.lists.adds) (has_later later value_is);
        stack = record {
          inside = g.lists.inside;
          trees = g.lists.trees ∙ ap₂ appended equations_later.trees last_list.trees ∙ sym (flatten_append the_scheme.equations ((t₀, t₀) ∷ (the_scheme.value, the_scheme.value) ∷ []));
        };
      }
