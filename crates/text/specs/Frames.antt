-- What a function that writes words keeps of a work area. Definitions only.
use Rattle.std.specs.Prelude.{ℕ, ◌+◌, ◌<◌, ◌≤◌, ◌≡◌, List, length, get_or}
use Rattle.std.proofs.Math.Seq.{slice}

-- v is w but for words from one position up to another
pub record Outside (w v : List ℕ) (from to : ℕ) : Type 0 where
  pub len : length v ≡ length w
  pub below : (p : ℕ) → p < from → get_or v p 0 ≡ get_or w p 0
  pub above : (p : ℕ) → to ≤ p → get_or v p 0 ≡ get_or w p 0

-- v is w with the words l from `to` on
pub record Wrote (w v : List ℕ) (to : ℕ) (l : List ℕ) : Type 0 where
  pub outside : Outside w v to (to + length l)
  pub words : slice to (to + length l) v ≡ l
