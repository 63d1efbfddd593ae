-- Where a layout stands in an output: what is written, what is unread, and what the output will be. Definitions only.
use Rattle.std.specs.Prelude.{ℕ, ◌+◌, ◌*◌, ◌≤◌, ◌≡◌, true, List, [], ◌∷◌, ◌++◌, eqb, length, take, drop}
use Rattle.std.specs.Prelude.{position}
use Rattle.std.specs.Option.{unwrap_or}
use Rattle.rules.specs.Bytes.{Text}
use Rattle.rules.specs.Sheet.{Entry}
use Rattle.rules.specs.SheetLines.{ended}
use Rattle.rules.specs.Page.{entries, lines_of, heading, paged}
use Rattle.laws.specs.Laying.{all_columned, entry_lines}
use Rattle.sheet.specs.Lines.{part_of}
use Rattle.text.specs.Printing.{printed_over}
use Rattle.layout.specs.declared.entries.Place.{Place}

-- how many bytes stand before the first that is b, or in all
abbrev pub length_before : ℕ → Text → ℕ
length_before b s = unwrap_or (position (λ (x : ℕ). eqb x b) s) (length s)

-- an output when these lines are laid out from a place on, up to the end of the pages
unfoldable pub laid : Text → ℕ → Place → List Text → Text
laid out end p ls = take p.at out ++ (ended (paged p.left p.number ls) ++ drop end out)

-- when what is unread is
unfoldable pub laid_out : Text → ℕ → Place → Text
laid_out out end p = laid out end p (lines_of (entries (part_of p.from end out)))

-- lines have just the room up to the end of the pages, and the number of the next page is that of the place
pub record Filling (out : Text) (end : ℕ) (p : Place) (ls : List Text) : Type 0 where
  pub inside : end ≤ length out
  pub room : p.at + length (ended (paged p.left p.number ls)) ≡ end
  pub number : 3650 * p.number ≡ p.at + 73 * p.left + 3650

-- what is unread is entries, whose lines have just the room
pub record Unread (out : Text) (end : ℕ) (p : Place) : Type 0 where
  pub fields : List Entry
  pub reader : p.from ≤ end
  pub listed : part_of p.from end out ≡ entry_lines fields
  pub fit : all_columned fields ≡ true
  pub filling : Filling out end p (lines_of fields)

-- a heading fits, where one is to be written
pub record HeadingRoom (out : Text) (p : Place) : Type 0 where
  pub room : p.left ≡ 0 → p.at + 73 ≤ length out
  pub number : p.left ≡ 0 → p.number ≤ p.at + 1

-- q is p after the heading, if one was to be written
pub record Headed (out v : Text) (p q : Place) : Type 0 where
  pub reader : q.from ≡ p.from
  pub written : p.left ≡ 0 → v ≡ printed_over out p.at (heading p.number ++ 10 ∷ [])
  pub at : p.left ≡ 0 → q.at ≡ p.at + 73
  pub left : p.left ≡ 0 → q.left ≡ 49
  pub number : p.left ≡ 0 → q.number ≡ p.number + 1
  pub kept : 1 ≤ p.left → v ≡ out
  pub same : 1 ≤ p.left → q ≡ p
