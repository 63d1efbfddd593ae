-- A binding put into the waiting pairs of an area.
use Prim.Native.Nat.{ℕ, ◌+◌, ◌<◌, ◌≤◌}
use mathlib.Core.Path.{◌≡◌, refl, ap, ap₂, ◌∙◌}
use mathlib.Core.Bool.{Bool}
use mathlib.Core.List.{List, [], ◌∷◌}
use native.Mathlib.Omega.{arith}
use Rattle.rules.specs.Bytes.{Text}
use Rattle.rules.specs.Tree.{Tree, Trees, more, sizes}
use Rattle.rules.specs.Substitution.{Binding, Pair, lookup, substitutes, size_pairs, flatten}
use Rattle.rules.specs.Inference.{put}
use Rattle.rules.specs.Solving.{bind, unknown, fits, bind_into}
use Rattle.laws.proofs.Basics.Tests.{true_leb, false_leb}
use Rattle.laws.proofs.Solving.Budget.{flatten_instance, flatten_size}
use Rattle.tree.specs.declared.area.Area.{Area}
use Rattle.tree.specs.Cells.{kind_of}
use Rattle.tree.specs.Areas.{name_in, tree_in, trees_in}
use Rattle.tree.proofs.Decoding.{kind}
use Rattle.tree.proofs.Keeping.{adds_then, adds_grows, grows_trees}
use Rattle.substitution.specs.Bindings.{bindings_of}
use Rattle.substitution.specs.Areas.{bindings_in, instances_in, Lists, WithinArea, ListsWithin, PutsInto}
use Rattle.substitution.specs.declared.instances.Built.{Built}
use Rattle.substitution.proofs.Keys.{key_name, bindings_none}
use Rattle.substitution.proofs.Listing.{within_then}

-- a key and a value before a list of bindings
pub bindings_pair : (a : Area) (key : ℕ) (t : Tree) (ts : Trees) → bindings_of (more (tree_in a key) (more t ts)) ≡ (name_in a key, t) ∷ bindings_of ts
unfolding bindings_of
bindings_pair a key t ts = ap (λ (x : Text). (x, t) ∷ bindings_of ts) (key_name a.sheet.now a.work.now key (kind (kind_of a.work.now key)))

-- the test of the nodes in all
module _ (x : Text) (t : Tree) (ps : List Pair) where
  fits_all : size_pairs (put x t ps) ≤ 4096 → bind_into x t ps ≡ bind x t (put x t ps)
  unfolding bind_into
  fits_all h = ap (λ (b : Bool). fits b x t (put x t ps)) (true_leb (size_pairs (put x t ps)) 4096 h)

  fits_not : 4096 < size_pairs (put x t ps) → bind_into x t ps ≡ unknown
  unfolding bind_into
  fits_not h = ap (λ (b : Bool). fits b x t (put x t ps)) (false_leb (size_pairs (put x t ps)) 4096 h)

-- the binding is a list of its own, before the waiting pairs are read
module _ {a m : Area} {j : ℕ} (key value stack : ℕ) (q : stack < a.free) (h : Lists a m j (more (tree_in a key) (more (tree_in a value) (trees_in a 0)))) (f : m.free ≡ a.free + 2) where
  one_binding : bindings_in m j ≡ (name_in a key, tree_in a value) ∷ []
  one_binding =
      ap bindings_of h.trees ∙ bindings_pair a key (tree_in a value) (trees_in a 0)
      ∙ ap (λ (bs : List Binding). (name_in a key, tree_in a value) ∷ bs) (bindings_none a.sheet.now a.work.now 0 refl)

  module _ (ps : List Pair) (e : trees_in a stack ≡ flatten ps) where
    instances_are : instances_in m j stack ≡ flatten (put (name_in a key) (tree_in a value) ps)
    instances_are =
        ap₂ (λ (bs : List Binding) (ts : Trees). substitutes (lookup bs) ts) one_binding (grows_trees (adds_grows h.adds) stack q ∙ e)
        ∙ flatten_instance ((name_in a key, tree_in a value) ∷ []) ps

    sizes_are : sizes (instances_in m j stack) ≡ size_pairs (put (name_in a key) (tree_in a value) ps)
    sizes_are = ap sizes instances_are ∙ flatten_size (put (name_in a key) (tree_in a value) ps)

    pub puts_into : {b : Area} {r : Built} → ListsWithin m b 4096 (instances_in m j stack) r → PutsInto a b (name_in a key) (tree_in a value) ps r.index
    puts_into g =
        let l : size_pairs (put (name_in a key) (tree_in a value) ps) ≤ 4096 = omega (arith, g.spent, sizes_are) in
        record {
          step = fits_all (name_in a key) (tree_in a value) ps l;
          small = l;
          lists = record { adds = adds_then h.adds g.lists.adds; inside = g.lists.inside; trees = g.lists.trees ∙ instances_are };
          used = omega (arith, g.used, f);
        }

    pub over_into : {b : Area} → (4096 < sizes (instances_in m j stack)) × WithinArea m b 4096 → (bind_into (name_in a key) (tree_in a value) ps ≡ unknown) × WithinArea a b 4098
    over_into g = (fits_not (name_in a key) (tree_in a value) ps (omega (arith, g.0, sizes_are)), within_then h.adds g.1 (omega arith))
