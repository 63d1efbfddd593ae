-- Lengths that are measured up to a room.
use Prim.Native.Nat.{ℕ, ◌<◌, ◌≤◌}
use mathlib.Core.Path.{◌≡◌, refl}
use mathlib.Core.Bool.{Bool, true, false, cond}
use Rattle.std.specs.Prelude.{Some, None}
use lib.Dec.{leb}
use borrow.Author.Tests.{le-leb, lt-leb, leb-true, leb-false}
use Rattle.printing.specs.Measure.{measured}

module _ {x room : ℕ} where
  pub fits_is : {n : ℕ} → n ≡ x → x ≤ room → Some n ≡ measured x room
  unfolding measured
  fits_is e h = rw (le-leb x room h, e)

  pub over_is : room < x → None ≡ measured x room
  unfolding measured
  over_is h = rw (lt-leb x room h)

  pub told : {n : ℕ} → Some n ≡ measured x room → (n ≡ x) × (x ≤ room)
  unfolding measured
  told {n} e = go (leb x room) refl e
    where
      go : (b : Bool) → leb x room ≡ b → Some n ≡ cond b (Some x) None → (n ≡ x) × (x ≤ room)
      go true g h = (cc, leb-true x room g)
      go false g h = absurd (cc)

  pub told_over : None ≡ measured x room → room < x
  unfolding measured
  told_over e = go (leb x room) refl e
    where
      go : (b : Bool) → leb x room ≡ b → None ≡ cond b (Some x) None → room < x
      go true g h = absurd (cc)
      go false g h = leb-false x room g
