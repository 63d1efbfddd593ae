-- Bytes written into an output. Definitions only.
use Rattle.std.specs.Prelude.{ℕ, ◌+◌, ◌≡◌, List, ◌++◌, length, take, drop}

-- out with bs from at on
unfoldable pub printed_over : List ℕ → ℕ → List ℕ → List ℕ
printed_over out at bs = take at out ++ (bs ++ drop (at + length bs) out)

-- v is out with bs from at on, and r is where they end
pub record Printed (out v : List ℕ) (at : ℕ) (bs : List ℕ) (r : ℕ) : Type 0 where
  pub bytes : v ≡ printed_over out at bs
  pub end : r ≡ at + length bs
