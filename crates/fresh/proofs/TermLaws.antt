-- The variables of a term of an area as a list of its cells, and one above their indices.
use Prim.Native.Nat.{ℕ, ◌+◌, ◌*◌, ◌-◌, ◌<◌, ◌≤◌, ◌^◌}
use mathlib.Core.Path.{◌≡◌, refl, sym, ap, subst, ◌∙◌}
use mathlib.Core.List.{List, [], append-nil}
use lib.ListN.{length}
use native.Mathlib.Omega.{arith}
use Rattle.std.specs.Prelude.{Some, None}
use Rattle.rules.specs.Bytes.{Text}
use Rattle.rules.specs.Tree.{Tree, Trees, none, more, size, sizes, variable_names, variable_names_in}
use Rattle.rules.specs.Tidy.{nil, both}
use Rattle.rules.specs.Cover.{variables}
use Rattle.rules.specs.Variants.{fresh_base}
use Rattle.tree.specs.declared.area.Area.{Area}
use Rattle.tree.specs.Areas.{tree_in, trees_in, Grows, Pushes}
use Rattle.tree.proofs.Decoding.{trees_none}
use Rattle.tree.proofs.Keeping.{grows_push, grows_keeps, grows_then, pushed_trees}
use Rattle.variables.specs.Ordered.{ordered_once}
use Rattle.variables.specs.Variables.{Short, Readable, ReadableAll}
use Rattle.variables.specs.Areas.{names_in, GathersIn, Listable, ListsVariablesIn}
use Rattle.variables.specs.declared.gathering.Places.{Places}
use Rattle.variables.proofs.Ordering.{variables_inserted}
use Rattle.variables.proofs.Gathered.{gathered_texts, gathered_within, gathered_listable, gathered_room, gathered_grows, gathered_variables, gathered_names, gathered_used}
use Rattle.fresh.specs.Indices.{names_base}
use Rattle.fresh.specs.Areas.{texts_in, TermNamesIn}
use Rattle.fresh.proofs.Indexing.{base_bounded, ordered_names_base}

one_names : (t : Tree) → variable_names_in (more t none) ≡ variable_names t
unfolding variable_names
one_names t = append-nil (variable_names t)

module _ {a b : Area} {k : ℕ} (term : ℕ) (g : Pushes a b k 0 (tree_in a term)) where
  abbrev tree : Tree
  tree = tree_in a term

  one_tree : trees_in b k ≡ more tree none
  one_tree = pushed_trees g ∙ ap (more tree) (trees_none a.sheet.now a.work.now 0 refl)

  pub one_readable : Readable tree → ReadableAll (trees_in b k)
  one_readable r = subst ReadableAll (sym one_tree) (record { built = both r.built nil; short = subst Short (sym (one_names tree)) r.short })

  sheet_length : length b.sheet.now ≡ length a.sheet.now
  sheet_length = ap (λ s. length s.now) g.lent.sheet

  one_size : sizes (trees_in b k) ≡ size tree
  unfolding size
  one_size = let e = ap sizes one_tree in omega arith

  pub one_small : size tree ≤ length a.sheet.now → sizes (trees_in b k) ≤ length b.sheet.now
  one_small f = omega (arith, one_size, sheet_length)

  module _ {d : Area} {p : Places} (o : GathersIn b d k p) where
    ordered_are : ordered_once (variable_names_in (trees_in b k)) ≡ ordered_once (variable_names tree)
    ordered_are = ap (λ (ts : Trees). ordered_once (variable_names_in ts)) one_tree ∙ ap ordered_once (one_names tree)

    base_are : names_base (texts_in d p) ≡ fresh_base tree 0
    base_are = ap names_base (gathered_texts o ∙ ordered_are) ∙ ordered_names_base tree

    pub no_base : None ≡ names_base (texts_in d p) → (fresh_base tree 0 ≡ None) × Grows a d
    no_base e = (sym base_are ∙ sym e, grows_then (grows_push g) (grows_keeps o.keeps))

    module _ (few : size tree ≤ length a.sheet.now) (room : 4 * (a.free + 1 + length a.sheet.now) + 2 * length a.sheet.now ≤ length a.work.now) where
      room_for : 4 * (b.free + length b.sheet.now) + 2 * length b.sheet.now ≤ length b.work.now
      room_for = omega (arith, sheet_length, g.end, g.linked.grown.len)

      pub places_within : (p.from ≤ p.to) × (p.to ≤ length d.work.now)
      places_within = gathered_within o (one_small few) room_for

      pub places_listable : Listable d p
      places_listable = gathered_listable o (one_small few) room_for

      pub places_room : a.free + 1 + length a.sheet.now < 2 ^ 32 → (4 * (d.free + (p.to - p.from)) ≤ p.from) × (d.free + (p.to - p.from) < 2 ^ 32)
      places_room r = gathered_room o (one_small few) room_for (omega (arith, sheet_length, g.end))

      module _ {z : Area} {i : ℕ} (base : ℕ) (e : Some base ≡ names_base (texts_in d p)) (h : ListsVariablesIn d z (p.to - p.from) (texts_in d p) i) where
        names_are : names_in z i ≡ variables tree []
        unfolding variables
        names_are = gathered_names o (one_small few) room_for h ∙ ordered_are ∙ sym (variables_inserted tree [])

        pub term_names : TermNamesIn a z term record { names = i; base = base }
        term_names = record {
          grows = grows_then (grows_push g) (gathered_grows o (one_small few) room_for h);
          names = record { inside = h.lists.inside; variables = gathered_variables o (one_small few) room_for h };
          are = names_are;
          used = omega (arith, gathered_used o (one_small few) room_for h, g.end, ap (λ (xs : List Text). length xs) names_are);
          based = sym base_are ∙ sym e;
          small = omega (arith, base_bounded 0 (texts_in d p) base (sym e) (omega arith));
        }
