-- Whether a text begins with another: the test that `after_key` makes. Definitions only.
use Rattle.std.specs.Prelude.{Bool, true, false, ◌&&◌, [], ◌∷◌, eqb}
use Rattle.rules.specs.Bytes.{Text}

unfoldable pub begins_with : Text → Text → Bool
begins_with [] s = true
begins_with (k ∷ ks) [] = false
begins_with (k ∷ ks) (b ∷ s) = eqb b k && begins_with ks s
