-- The test whether a text begins with another is the one that `after_key` makes.
use mathlib.Core.Path.{◌≡◌, refl}
use mathlib.Core.List.{[], ◌∷◌}
use Rattle.std.specs.Prelude.{Some, None}
use mathlib.Core.Bool.{Bool, true, false, cond, ◌&&◌}
use lib.ListN.{length, drop}
use lib.Dec.{eqb}
use borrow.Author.Tests.{eqb-true, eqb-false}
use Rattle.rules.specs.Bytes.{Text}
use Rattle.rules.specs.Lines.{after_key}
use Rattle.text.specs.Prefix.{begins_with}

-- what follows the key is there exactly where the text begins with it
pub after_key_is : (k s : Text) → after_key k s ≡ cond (begins_with k s) (Some (drop (length k) s)) None
unfolding after_key begins_with
after_key_is [] s = refl
after_key_is (k ∷ ks) [] = refl
after_key_is (k ∷ ks) (b ∷ s) = go (eqb k b) refl (eqb b k) refl (after_key_is ks s)
  where
    go : (p : Bool) → eqb k b ≡ p → (q : Bool) → eqb b k ≡ q
        → after_key ks s ≡ cond (begins_with ks s) (Some (drop (length ks) s)) None
        → elim p [ true ↦ after_key ks s | false ↦ None ] ≡ cond (q && begins_with ks s) (Some (drop (length ks) s)) None
    go true e true f r = r
    go false e false f r = refl
    go true e false f r = let z : k ≡ b = eqb-true k b e in absurd (eqb-false b k f (cc))
    go false e true f r = let z : b ≡ k = eqb-true b k f in absurd (eqb-false k b e (cc))
