-- The pairs by which a member generalizes, as a list of an area's cells.
use Prim.Native.Nat.{ℕ, ◌+◌, ◌*◌, ◌<◌}
use mathlib.Core.Path.{◌≡◌, refl, sym, ap, ◌∙◌}
use native.Mathlib.Omega.{arith}
use Rattle.rules.specs.Tree.{Trees, more, count}
use Rattle.rules.specs.Substitution.{flatten}
use Rattle.rules.specs.Variants.{Variant}
use Rattle.tree.specs.declared.area.Area.{Area}
use Rattle.tree.specs.Areas.{first_in, next_in, tree_in, trees_in, CellIn, HasRoom, Grows}
use Rattle.tree.specs.Lists.{Lists}
use Rattle.tree.proofs.Decoding.{trees_none}
use Rattle.tree.proofs.Keeping.{adds_grows, adds_then, grows_length, grows_trees}
use Rattle.substitution.specs.Areas.{bindings_in}
use Rattle.variables.specs.Areas.{names_in, SolutionIn, ValuesPairedIn}
use Rattle.variables.specs.Pairing.{paired, flatten_before}
use Rattle.variables.specs.declared.pairing.Solution.{Solution}
use Rattle.families.specs.Generalizing.{member_pairs, IsMember}
use Rattle.families.specs.Areas.{general_pairs_in, pairs_end, MatchedIn}
use Rattle.families.proofs.Generals.{entries_inside, member_is, member_paired}

-- the value's pair
module _ {a b : Area} (own value : ℕ) {last : ℕ} {s : Solution} (h : Lists a b last (more (tree_in a own) (more (tree_in a value) (trees_in a 0)))) (o : SolutionIn a s) where
  list_kept : trees_in b s.names ≡ trees_in a s.names
  list_kept = grows_trees (adds_grows h.adds) s.names o.names.inside

  pub pairs_room : (member : ℕ) → MatchedIn a member s value → b.free ≡ a.free + 2 → HasRoom b (2 * count (trees_in b s.names))
  pairs_room member r z = let k = ap count list_kept in let l = grows_length (adds_grows h.adds) in (omega (arith, r.room.0), omega (arith, r.room.1))

-- the pairs of the variables before it: the list from cell i on is that of the pairs of the member
pub record Paired (a d : Area) (member : ℕ) (s : Solution) (value i : ℕ) : Type 0 where
  pub grows : Grows a d
  pub inside : i < d.free
  pub trees : trees_in d i ≡ flatten (general_pairs_in a member s value)
  pub used : d.free ≡ pairs_end a s.names

module _ {a b d : Area} (member own entries : ℕ) (s : Solution) (value : ℕ) {last i : ℕ} (t : IsMember (tree_in a member)) (p : CellIn a member) (e : own ≡ first_in a member) (f : entries ≡ next_in a own)
    (o : SolutionIn a s) (h : Lists a b last (more (tree_in a own) (more (tree_in a value) (trees_in a 0)))) (z : b.free ≡ a.free + 2) (g : ValuesPairedIn b d entries s last i) where
  kept : (j : ℕ) → j < a.free → trees_in b j ≡ trees_in a j
  kept j l = grows_trees (adds_grows h.adds) j l

  eb : entries < a.free
  eb = entries_inside member a.arena p.0 p.1 t own e entries f

  pub paired_up : Paired a d member s value i
  paired_up = record {
    grows = adds_grows (adds_then h.adds g.lists.adds);
    inside = g.lists.inside;
    trees =
        g.lists.trees
        ∙ ap (flatten_before (paired (bindings_in b entries) (bindings_in b s.bindings) (names_in b s.names)))
        (h.trees ∙ ap (λ (ts : Trees). more (tree_in a own) (more (tree_in a value) ts)) (trees_none a.sheet.now a.work.now 0 refl))
        ∙ rw (kept entries eb, kept s.names o.names.inside, kept s.bindings o.bindings) (member_paired (names_in a s.names) (tree_in a own) (bindings_in a entries) (bindings_in a s.bindings) (tree_in a value))
        ∙ sym (ap (λ (x : Variant). flatten (member_pairs (names_in a s.names) x (bindings_in a s.bindings) (tree_in a value))) (member_is member a.arena p.0 p.1 t own e entries f));
    used = let c = ap count (kept s.names o.names.inside) in omega (arith, g.used);
  }
