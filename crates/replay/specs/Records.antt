-- What a record of the list is, and what is left after it. Definitions only.
use Rattle.std.specs.Prelude.{◌≡◌, Bool, true, false, ◌&&◌, [], ◌∷◌, ◌++◌}
use Rattle.rules.specs.Bytes.{Text, same}
use Rattle.rules.specs.Text.{bytes}
use Rattle.text.specs.Prefix.{begins_with}
use Rattle.replay.specs.declared.call.Record.{Record}

-- the word of a record whose call gives pages, or the answer
abbrev pub first_word : Bool → Text
first_word true = bytes "pages "
first_word false = bytes "sheet "

-- a record that starts so starts with its word, and its last byte is byte 10
abbrev pub in_form : Text → Bool → Text → Bool
in_form start paged end = begins_with (first_word paged) start && same end (10 ∷ [])

-- the text is an end of the list
abbrev pub LeftOf : Text → Text → Type 0
LeftOf list rest = (front : Text) × (list ≡ front ++ rest)

-- the list starts with the record r, whose parts stand in it one after another, and the rest is left
pub record ReadsRecord (list : Text) (r : Record) (rest : Text) : Type 0 where
  pub head : Text
  pub parts : list ≡ head ++ (r.label.now ++ (r.sheet.now ++ (r.answer.now ++ (10 ∷ rest))))
  pub starts : begins_with (first_word r.paged) list ≡ true
