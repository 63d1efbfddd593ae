-- What two sums of an area leave, from the cells that are left of them.
use Prim.Native.Nat.{ℕ, ◌+◌, ◌<◌, ◌≤◌}
use mathlib.Core.Path.{◌≡◌, sym, ap, ap₂, subst, ◌∙◌}
use mathlib.Core.Bool.{Bool, true}
use mathlib.Core.List.{List, [], ◌∷◌}
use lib.ListN.{length}
use native.Mathlib.Omega.{arith}
use Rattle.std.specs.Prelude.{Option, Some, None, Result, Ok, Err}
use Rattle.rules.specs.Tree.{Tree, size}
use Rattle.rules.specs.Sums.{summands, rebuild}
use Rattle.rules.specs.Solving.{cancel, remainder, cancel_sums}
use Rattle.rules.specs.Solving as rules
use Rattle.rules.specs.declared.Ending.{Ending}
use Rattle.laws.specs.Memory.{kept_summands}
use Rattle.laws.proofs.Sheets.BuiltMatch.{mass, summands_mass, cancel_mass, cancel_mass_left}
use Rattle.tree.specs.declared.area.Area.{Area}
use Rattle.tree.specs.Areas.{tree_in, KeepsCells}
use Rattle.tree.proofs.Keeping.{grows_keeps, grows_then, keeps_then, grows_tree, grows_length}
use Rattle.sums.specs.Sums.{heavy, test}
use Rattle.tree.specs.Areas.{sum_in}
use Rattle.sums.specs.Areas.{remaining_in, Prepared, Summed}
use Rattle.sums.specs.declared.Summands.{Summands}
use Rattle.sums.proofs.InAreas.{summed_grows}
use Rattle.elimination.specs.Area.{Room}
use Rattle.elimination.specs.Stack.{Fit}
use Rattle.sums.specs.Summands.{every_cancels}
use Rattle.sums.specs.declared.striking.Cancelling.{Cancelling}
use Rattle.sums.specs.declared.striking.Cancelling.TheVariants as cancelling
use Rattle.steps.specs.Areas.{LeftIn, SummableIn, EquationIn, RestIn}
use Rattle.steps.specs.declared.rest.Equation.{Equation}
use Rattle.steps.proofs.Resting.{sum_paired, heavy_mass}

-- one is left on the left
pub one_paired : {a b : Area} {ks os : List Tree} (c : Cancelling) (k j : ℕ) → LeftIn a ks (Some k) None → Summed a b os (Some j) → EquationIn a b (length ks + length os) (remainder (every_cancels c) ks os) k j
unfolding rebuild
one_paired {a} {b} c k j h g =
    let grows = summed_grows g in
    let len = ap length h.1 in
    record {
      is = ap₂ (λ (ts us : List Tree). remainder (every_cancels c) ts us) (h.1 ∙ ap (λ (t : Tree). t ∷ []) (sym (grows_tree grows k h.0.1 h.0.0))) g.sum.are ∙ ap (rules.equation (tree_in b k)) (sym g.sum.tree);
      grows = grows;
      left_inside = (h.0.0, omega (arith, h.0.1, grows.grew));
      right_inside = (g.sum.some_cell, g.sum.inside);
      used = omega (arith, g.used, len);
    }

-- one is left on the right, and every summand cancels
pub one_swapped : {a b : Area} {ks os : List Tree} {c : Cancelling} (i k : ℕ) → c ≡ cancelling.Every → Summed a b ks (Some i) → LeftIn a os (Some k) None → EquationIn a b (length ks + length os) (remainder (every_cancels c) ks os) i k
one_swapped {a} {b} {ks} {os} {c} i k e g h =
    let grows = summed_grows g in
    let len = ap length h.1 in
    record {
      is = ap (λ (d : Cancelling). remainder (every_cancels d) ks os) e ∙ ap₂ (λ (ts us : List Tree). remainder true ts us) g.sum.are h.1 ∙ sum_paired g.sum.head g.sum.tail (tree_in a k)
          ∙ ap₂ rules.equation (sym g.sum.tree) (sym (grows_tree grows k h.0.1 h.0.0));
      grows = grows;
      left_inside = (g.sum.some_cell, g.sum.inside);
      right_inside = (h.0.0, omega (arith, h.0.1, grows.grew));
      used = omega (arith, g.used, len);
    }

-- the cells of the summands gathered, before that
rest_later : {a m : Area} (b : Area) (kept : ℕ) (d : rules.Rest) → KeepsCells a m → (x : Result (Option Equation) Ending) → RestIn m b kept d x → RestIn a b kept d x
rest_later b kept d k (Ok None) h = (h.0, keeps_then k h.1)
rest_later b kept d k (Ok (Some e)) h =
    record { is = h.is; grows = grows_then (grows_keeps k) h.grows; left_inside = h.left_inside; right_inside = h.right_inside; used = omega (arith, h.used, k.end) }
rest_later b kept d k (Err e) h = (h.0, keeps_then k h.1)

pub sum_kept : {a m : Area} (k : ℕ) → KeepsCells a m → 0 < k → k < a.free → sum_in (tree_in a k) ≡ true → sum_in (tree_in m k) ≡ true
sum_kept k h p q e = ap sum_in (grows_tree (grows_keeps h) k q p) ∙ e

module _ {a m : Area} {p : Summands} {l r : Tree} {e : Bool} (room : Room a.work.now a.free) (fit : Fit l × Fit r) (h : Prepared a m p (size l + size r) l r e) where
  left_light : heavy (remaining_in m p.at p.mid) ≤ 65535
  left_light =
      let z : mass (cancel (test e) (summands l) (summands r)).0 ≡ mass (remaining_in m p.at p.mid) = ap (λ (c : List Tree × List Tree). mass c.0) h.are in
      omega (arith, z, heavy_mass (remaining_in m p.at p.mid), cancel_mass_left (test e) (summands l) (summands r), summands_mass fit.0.built, fit.0.small)

  right_light : heavy (remaining_in m p.mid p.end) ≤ 65535
  right_light =
      let z : mass (cancel (test e) (summands l) (summands r)).1 ≡ mass (remaining_in m p.mid p.end) = ap (λ (c : List Tree × List Tree). mass c.1) h.are in
      omega (arith, z, heavy_mass (remaining_in m p.mid p.end), cancel_mass (test e) (summands l) (summands r), summands_mass fit.1.built, fit.1.small)

  summable : (x y : ℕ) → p.at ≤ x → x ≤ y → y ≤ p.end → heavy (remaining_in m x y) ≤ 65535 → SummableIn m x y
  summable x y i j k light =
      let f = h.keeps.end in
      let len = grows_length (grows_keeps h.keeps) in
      let start = h.start in
      let bound = h.bound in
      let u = fit.0.small in
      let v = fit.1.small in
      let w = room.0 in
      let z = room.1 in
      record { order = j; inside = omega arith; room = omega arith; small = omega arith; cells = λ q b c. omega (arith, f, h.cells q (omega arith) (omega arith)); light = light }

  pub left_summable : SummableIn m p.at p.mid
  left_summable = summable p.at p.mid (omega arith) h.low h.high left_light

  pub right_summable : SummableIn m p.mid p.end
  right_summable = summable p.mid p.end h.low h.high (omega arith) right_light

  pub settled : (b : Area) (d : Bool) (x : Result (Option Equation) Ending) → RestIn m b (length (remaining_in m p.at p.mid) + length (remaining_in m p.mid p.end)) (remainder d (remaining_in m p.at p.mid) (remaining_in m p.mid p.end)) x
      → RestIn a b (kept_summands (test e) l r) (cancel_sums d (test e) l r) x
  unfolding kept_summands cancel_sums
  settled b d x q = rest_later b (kept_summands (test e) l r) (cancel_sums d (test e) l r) h.keeps x (subst (λ (c : List Tree × List Tree). RestIn m b (length c.0 + length c.1) (remainder d c.0 c.1) x) (sym h.are) q)
