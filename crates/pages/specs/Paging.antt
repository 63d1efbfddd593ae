-- An answer in pages, with an output, and what its pages need. Definitions only.
use Rattle.std.specs.Prelude.{ℕ, ◌<◌, ◌≤◌, ◌≡◌, leb, length, Option, Some, None}
use Rattle.rules.specs.Bytes.{Text}
use Rattle.rules.specs.Page.{page, page_count}
use Rattle.rules.specs.Call.{Reply, ◌>>=◌, need, fitting}
use Rattle.rules.specs.declared.Refusal.TheVariants.{TooManyPages}
use Rattle.rules.specs.RefusalNumbers.{number_for}
use Rattle.pages.specs.declared.Needed.{Needed}

-- a reply laid out, with an output of so many bytes: 13, then 12
unfoldable pub on_pages : Reply Text → ℕ → Reply Text
unfolding page_count page
on_pages o room = do
  answer ← o
  _ ← need (leb (page_count answer) 9999) (number_for TooManyPages)
  fitting (page answer) room

-- the length of an answer and its pages; none where they are too many
abbrev pub Needs : Text → Option Needed → Type 0
Needs answer None = 9999 < page_count answer
Needs answer (Some n) = (n.length ≡ length answer) × (n.pages ≡ page_count answer) × (n.pages ≤ 9999)
