-- The trees of a chain of an area put in their order, and how many nodes they have.
use Prim.Native.Nat.{ℕ, zero, suc, ◌*◌, ◌<◌, ◌≤◌}
use native.Mathlib.Omega.{arith}
use mathlib.Core.Path.{refl, ap}
use Rattle.rules.specs.Tree.{count, sizes}
use Rattle.tree.specs.declared.area.Area.{Area}
use Rattle.tree.specs.Areas.{next_in, trees_in}
use Rattle.tree.proofs.Decoding.{count_small}
use Rattle.tree.proofs.Lists.{list_none, list_count, list_size}

counted : (a : Area) (f k : ℕ) → k ≤ f → k < a.free → sizes (trees_in a k) ≤ 65535 * count (trees_in a k)
unfolding sizes
counted a f zero p q = omega (arith, ap sizes (list_none a zero refl))
counted a zero (suc k) p q = absurd (omega arith)
counted a (suc f) (suc k) p q =
    let n = a.arena.links.next (suc k) (omega arith) q in
    let c = (a.arena.cell (suc k) (omega arith) q).counted in
    let h = counted a f (next_in a (suc k)) (omega arith) (omega arith) in
    omega (arith, count_small a.work.now (suc k), list_size a (suc k) (omega arith) q refl, list_count a (suc k) (omega arith) q refl)

-- a count of nodes is below 65,536
pub list_sizes : (a : Area) (k : ℕ) → k < a.free → sizes (trees_in a k) ≤ 65535 * count (trees_in a k)
list_sizes a k q = counted a k k (omega arith) q
