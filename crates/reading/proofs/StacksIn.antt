-- The stack of open lists over an area: a tree put on the top, a level opened, a level closed.
use Prim.Native.Nat.{ℕ, ◌+◌, ◌*◌, ◌-◌, ◌<◌, ◌≤◌}
use native.Mathlib.Omega.{arith}
use mathlib.Core.Path.{◌≡◌, refl, sym, ap, ◌∙◌, subst}
use lib.ListN.{get_or}
use Rattle.std.specs.Prelude.{None}
use Rattle.rules.specs.Bytes.{Text}
use Rattle.rules.specs.Tree.{Tree, none, more, sizes}
use Rattle.rules.specs.Reading.{close}
use Rattle.sheet.specs.declared.Place.{Place}
use Rattle.tree.specs.declared.area.Area.{Area}
use Rattle.tree.specs.Cells.{part, trees_at}
use Rattle.tree.specs.Arena.{Arena}
use Rattle.tree.specs.Areas.{trees_in, Lent, Adds, Pushes}
use Rattle.tree.specs.Spelled.{Spelled}
use Rattle.tree.specs.Words.{Writes}
use Rattle.tree.proofs.Keeping.{lent_then, adds_push, pushed_inside, pushed_trees}
use Rattle.tree.proofs.Lists.{list_none}
use Rattle.closing.specs.Machine.{back}
use Rattle.closing.specs.Words.{NamePlaced, Held}
use Rattle.closing.specs.Closing.{most}
use Rattle.closing.specs.Areas.{room_for, ClosesIn, Shuts}
use Rattle.reading.specs.Stacks.{HeldIn, AddsTo, level_tree, ClosedOn, ClosesOn}
use Rattle.reading.specs.declared.stack.Stack.{Stack}
use Rattle.text.proofs.Frames.{outside_within}
use Rattle.reading.proofs.Stacks.{Put, added, held_below, level_is}

-- the levels, with and without the cells
pub held_of : (a : Area) {limit d : ℕ} → HeldIn a limit d → Held a.sheet.now a.work.now a.free limit d
held_of a h = record { arena = a.arena; below = h.below; room = h.room; trees = h.trees; names = h.names }

pub held_in : {a b : Area} {limit d : ℕ} → Lent a b → Held a.sheet.now b.work.now b.free limit d → HeldIn b limit d
held_in {a} {b} {limit} {d} l h =
    let g = subst (λ s. Held s.now b.work.now b.free limit d) (sym l.sheet) h in
    record { below = g.below; room = g.room; trees = g.trees; names = g.names }

-- a name as a place and as a start with a length
pub placed_of : {s : Text} {p : Place} → Spelled s p → NamePlaced s p.from (p.to - p.from)
placed_of y = record { some = omega (arith, y.some); inside = omega (arith, y.some, y.inside); short = y.short; plain = y.plain }

extent : (a n : ℕ) → a + n - a ≡ n
extent a n = omega arith

-- a new tree
pub put_cell : {a b : Area} {k next : ℕ} {t : Tree} → Adds a b → k < b.free → trees_in b k ≡ more t (trees_in a next) → Put a.sheet.now a.work.now b.work.now a.free b.free k next t
put_cell {a} {b} {k} h q e = record {
  grew = h.grew;
  inside = q;
  arena = subst (λ s. Arena s.now b.work.now b.free) h.lent.sheet b.arena;
  grown = h.grown;
  trees = sym (ap (λ s. trees_at s.now b.work.now k) h.lent.sheet) ∙ e;
}

-- put on the top
pub put_adds : {a m b : Area} (k : Stack) {cell : ℕ} {t : Tree} → Held a.sheet.now a.work.now a.free k.limit k.depth → m.free ≤ k.limit → Lent a m
    → Put a.sheet.now a.work.now m.work.now a.free m.free cell (get_or a.work.now (4 * k.limit + 3 * k.depth) 0) t → Writes m b (4 * k.limit + 3 * k.depth) cell → AddsTo a b k t
put_adds k {cell} h q l p y = record {
  lent = lent_then l y.lent;
  added = rw (y.end, y.words) (added cell h q p);
}

pub leaf_adds : {a m b : Area} (k : Stack) {cell next : ℕ} {t : Tree} → HeldIn a k.limit k.depth → a.free < k.limit → next ≡ get_or a.work.now (4 * k.limit + 3 * k.depth) 0 → Pushes a m cell next t
    → Writes m b (4 * k.limit + 3 * k.depth) cell → AddsTo a b k t
leaf_adds {a} {m} k {cell} {next} {t} h q e x y =
    put_adds k (held_of a h) (omega (arith, x.end)) x.lent
    (subst (λ (j : ℕ). Put a.sheet.now a.work.now m.work.now a.free m.free cell j t) e (put_cell (adds_push x) (pushed_inside x) (pushed_trees x))) y

-- no children
pub leaf_count : (a : Area) → 1 ≡ 1 + sizes (trees_in a 0)
unfolding sizes
leaf_count a = omega (arith, ap sizes (list_none a 0 refl))

-- the level above the top closed, at the numbers that the code holds
module _ (a : Area) (k : Stack) {from len chain : ℕ} (e₁ : from ≡ get_or a.work.now (4 * k.limit + 3 * k.depth + 1) 0) (e₂ : len ≡ get_or a.work.now (4 * k.limit + 3 * k.depth + 2) 0)
    (e₃ : chain ≡ get_or a.work.now (4 * k.limit + 3 * k.depth + 3) 0) where
  level_closed : close (part a.sheet.now from (from + len - from)) (back (trees_in a chain) none) ≡ level_tree a k
  level_closed = ap (λ (n : ℕ). close (part a.sheet.now from n) (back (trees_in a chain) none)) (extent from len) ∙ level_is a.sheet.now a.work.now k.limit k.depth e₁ e₂ e₃

  room_is : a.free + room_for a chain ≡ most a.sheet.now a.work.now a.free (get_or a.work.now (4 * k.limit + 3 * k.depth + 3) 0)
  room_is = rw e₃ (omega arith)

  module _ (b : Area) (next : ℕ) where
    pub level_refused : most a.sheet.now a.work.now a.free (get_or a.work.now (4 * k.limit + 3 * k.depth + 3) 0) ≤ k.limit
        → ClosesIn a b (room_for a chain) next (close (part a.sheet.now from (from + len - from)) (back (trees_in a chain) none)) None → ClosesOn a b k None
    level_refused q x = (
      (λ t f. x.0 t (level_closed ∙ f)),
      x.1,
      outside_within (omega arith) (omega (arith, room_is)) x.3,
      x.2,
    )

    pub level_shut : {d : Area} {cell : ℕ} → HeldIn a k.limit (k.depth + 1) → most a.sheet.now a.work.now a.free (get_or a.work.now (4 * k.limit + 3 * k.depth + 3) 0) ≤ k.limit
        → next ≡ get_or a.work.now (4 * k.limit + 3 * k.depth) 0 → Shuts a b (room_for a chain) next (close (part a.sheet.now from (from + len - from)) (back (trees_in a chain) none)) cell
        → Writes b d (4 * k.limit + 3 * k.depth) cell → ClosedOn a d k
    level_shut {d} {cell} h q e₀ x y = record {
      tree = x.tree;
      is = sym level_closed ∙ x.is;
      small = x.small;
      grew = omega (arith, x.new, x.last, y.end);
      room = omega (arith, room_is, x.used, y.end);
      adds = put_adds k (held_below (held_of a h)) (omega (arith, room_is, x.used)) x.adds.lent
          (subst (λ (j : ℕ). Put a.sheet.now a.work.now b.work.now a.free b.free cell j x.tree) e₀ (put_cell x.adds x.inside x.trees)) y;
    }
