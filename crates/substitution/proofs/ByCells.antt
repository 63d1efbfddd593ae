-- Bindings by the list of their cells, two cells a step.
use Prim.Native.Nat.{ℕ, ◌<◌}
use mathlib.Core.Path.{◌≡◌, sym, ap, ◌∙◌}
use mathlib.Core.List.{List, [], ◌∷◌}
use native.Mathlib.Omega.{arith}
use Rattle.tree.specs.declared.area.Area.{Area}
use Rattle.tree.specs.Areas.{next_in}
use Rattle.tree.specs.Lists.{cells_from}
use Rattle.tree.proofs.Walks.{walk_ends, walk_goes}

-- a list from cell k on that has no cell, and one that has
module _ (a : Area) (k : ℕ) (q : k < a.free) where
  pub cells_end : cells_from a k ≡ [] → k ≡ 0
  cells_end e = walk_ends a k (sym e) q

  pub cells_step : {x : ℕ} {ks : List ℕ} → cells_from a k ≡ x ∷ ks → (0 < k) × (x ≡ k) × (ks ≡ cells_from a (next_in a k)) × (next_in a k < a.free)
  cells_step e =
      let w = walk_goes a k (sym e) q in
      let p : 0 < k = omega (arith, w.0, w.1) in
      (p, sym w.0, w.2 ∙ ap (λ (j : ℕ). cells_from a (next_in a j)) (sym w.0), omega (arith, a.arena.links.next k p q))
