-- Laws on the words that are kept: where nothing is written, in wider bounds, and one after another.
use Prim.Native.Nat.{ℕ, ◌<◌, ◌≤◌}
use mathlib.Core.Path.{refl, ◌∙◌}
use mathlib.Core.List.{List}
use lib.ListN.{set, length-set}
use lib.Seq.{get_or-set_other}
use native.Mathlib.Omega.{arith}
use Rattle.text.specs.Frames.{Outside}

pub outside_same : (w : List ℕ) (a b : ℕ) → Outside w w a b
outside_same w a b = record { len = refl; below = λ p q. refl; above = λ p q. refl }

pub outside_then : {w v u : List ℕ} {a b c d e : ℕ} → a ≤ c → b ≤ e → d ≤ e → Outside w v a b → Outside v u c d → Outside w u a e
outside_then x y z g h = record {
  len = h.len ∙ g.len;
  below = λ p q. h.below p (omega arith) ∙ g.below p q;
  above = λ p q. h.above p (omega arith) ∙ g.above p (omega arith);
}

-- the second within the bounds of the first, and the first within those of the second
pub outside_on : {w v u : List ℕ} {a b c d : ℕ} → a ≤ c → d ≤ b → Outside w v a b → Outside v u c d → Outside w u a b
outside_on x y g h = outside_then x (omega arith) y g h

pub outside_within : {w v : List ℕ} {a b c d : ℕ} → a ≤ c → d ≤ b → Outside w v c d → Outside w v a b
outside_within {w} {a = a} {b = b} x y h = outside_on x y (outside_same w a b) h

-- one word more
pub outside_set : {w v : List ℕ} {a b : ℕ} (at x : ℕ) → a ≤ at → at < b → Outside w v a b → Outside w (set v at x) a b
outside_set {v = v} at x l r h = record {
  len = length-set v at x ∙ h.len;
  below = λ p q. get_or-set_other v at p x 0 (omega arith) ∙ h.below p q;
  above = λ p q. get_or-set_other v at p x 0 (omega arith) ∙ h.above p q;
}
