-- The tokens of each byte, by computation: by itself, within names, numbers and sorts, and as the start of a variable.
use mathlib.Core.Path.{◌≡◌, refl}
use mathlib.Core.List.{flat_map}
use Rattle.rules.specs.Tokens.{tokens}
use Rattle.rules.specs.TokenTable.{ascending, classes, sigils, all_bytes, found, told, alone, as_alone, between_letters, as_between_letters, between_digits, as_between_digits, after_colon, as_after_colon, before_index, as_before_index}

pub classes_bytes : all_bytes classes ≡ ascending 32 95
unfolding flat_map
classes_bytes = refl

pub sigils_bytes : all_bytes sigils ≡ ascending 32 95
unfolding flat_map
sigils_bytes = refl

pub alone_told : found alone classes ≡ told as_alone classes
unfolding tokens flat_map
alone_told = refl

pub letters_told : found between_letters classes ≡ told as_between_letters classes
unfolding tokens flat_map
letters_told = refl

pub digits_told : found between_digits classes ≡ told as_between_digits classes
unfolding tokens flat_map
digits_told = refl

pub sorts_told : found after_colon classes ≡ told as_after_colon classes
unfolding tokens flat_map
sorts_told = refl

pub sigils_told : found before_index sigils ≡ told as_before_index sigils
unfolding tokens flat_map
sigils_told = refl
