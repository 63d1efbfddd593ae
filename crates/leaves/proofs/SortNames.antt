-- The sort of a name by its length and its bytes.
use mathlib.Core.Path.{◌≡◌, refl}
use lib.ListN.{length, get_or}
use Rattle.std.specs.Prelude.{Some, None}
use Rattle.rules.specs.Bytes.{Text, same}
use Rattle.rules.specs.Text.{bytes}
use Rattle.rules.specs.declared.Sort.TheVariants.{TamNat}
use Rattle.rules.specs.Sorts.{sort_named}
use Rattle.laws.proofs.Basics.Tests.{differ_of_ne}
use Rattle.text.proofs.Spelling.{reads}

-- a text with none of the names
pub unnamed : (n : Text) → (length n ≡ 3 → get_or n 0 0 ≡ 80 → get_or n 1 0 ≡ 117 → get_or n 2 0 ≡ 98 → ⊥)
    → (length n ≡ 5 → get_or n 0 0 ≡ 70 → get_or n 1 0 ≡ 114 → get_or n 2 0 ≡ 101 → get_or n 3 0 ≡ 115 → get_or n 4 0 ≡ 104 → ⊥)
    → (length n ≡ 3 → get_or n 0 0 ≡ 77 → get_or n 1 0 ≡ 115 → get_or n 2 0 ≡ 103 → ⊥)
    → (length n ≡ 6 → get_or n 0 0 ≡ 84 → get_or n 1 0 ≡ 97 → get_or n 2 0 ≡ 109 → get_or n 3 0 ≡ 78 → get_or n 4 0 ≡ 97 → get_or n 5 0 ≡ 116 → ⊥)
    → (length n ≡ 4 → get_or n 0 0 ≡ 78 → get_or n 1 0 ≡ 111 → get_or n 2 0 ≡ 100 → get_or n 3 0 ≡ 101 → ⊥) → None ≡ sort_named n
unfolding sort_named
unnamed n p f m t d =
    rw (
      differ_of_ne {x = n} {y = bytes "Pub"} (λ e. rw e at p refl refl refl refl),
      differ_of_ne {x = n} {y = bytes "Fresh"} (λ e. rw e at f refl refl refl refl refl refl),
      differ_of_ne {x = n} {y = bytes "Msg"} (λ e. rw e at m refl refl refl refl),
      differ_of_ne {x = n} {y = bytes "TamNat"} (λ e. rw e at t refl refl refl refl refl refl refl),
      differ_of_ne {x = n} {y = bytes "Node"} (λ e. rw e at d refl refl refl refl refl),
    )
    refl

pub named_tam_nat : (n : Text) → length n ≡ 6 → get_or n 0 0 ≡ 84 → get_or n 1 0 ≡ 97 → get_or n 2 0 ≡ 109 → get_or n 3 0 ≡ 78 → get_or n 4 0 ≡ 97 → get_or n 5 0 ≡ 116 → Some TamNat ≡ sort_named n
unfolding sort_named same
named_tam_nat n l g h i j k m = rw (reads n (bytes "TamNat") (g, (h, (i, (j, (k, (m, l))))))) refl
