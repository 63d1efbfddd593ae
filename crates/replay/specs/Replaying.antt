-- When a record is replayed, and what its replay gives. Definitions only.
use Rattle.std.specs.Prelude.{◌≡◌, ℕ, Bool, true, false, cond, ◌&&◌, List, [], ◌++◌, length, take, drop, ◌==◌, nat_le, Option, Some, None}
use Rattle.rules.specs.Bytes.{Text, same}
use Rattle.rules.specs.Call.{Reply, refused, passed, call, overwritten, work_after}
use Rattle.rules.specs.PageCall.{page_call}
use Rattle.replay.specs.declared.call.Record.{Record}

-- the call that a record asks: for pages, or for the answer
abbrev pub asked : Bool → Text → ℕ → ℕ → Reply Text
asked true = page_call
asked false = call

-- there are the words and the room that the record lends
unfoldable pub lends : ℕ → ℕ → Record → Bool
lends words room stored = nat_le stored.words words && nat_le stored.room room

-- the reply is the one stored: its number and its bytes
unfoldable pub agreeing : Reply Text → ℕ → Text → Bool
unfolding same
agreeing (refused n) refusal answer = n == refusal && same [] answer
agreeing (passed text) refusal answer = 0 == refusal && same text answer

-- r says whether the call's reply is the one stored; every word and byte after it is the call's
pub record Compares (f : Text → ℕ → ℕ → Reply Text) (s : Text) (w v : List ℕ) (out after : Text) (refusal : ℕ) (answer : Text) (r : Bool) : Type 0 where
  pub agrees : r ≡ agreeing (f s (length w) (length out)) refusal answer
  pub work : v ≡ work_after s w
  pub output : after ≡ overwritten (f s (length w) (length out)) out

-- what is said of a record: whether it agrees, if it is replayed
abbrev pub outcome : Bool → Bool → Option Bool
outcome replayed agrees = cond replayed (Some agrees) None

-- r is what the record's replay gives, with the words and the bytes that the record lends; the others are kept
pub record Replays (stored : Record) (w v : List ℕ) (out after : Text) (r : Option Bool) : Type 0 where
  pub says : r ≡ outcome (lends (length w) (length out) stored) (agreeing (asked stored.paged stored.sheet.now stored.words stored.room) stored.refusal stored.answer.now)
  pub work : v ≡ cond (lends (length w) (length out) stored) (work_after stored.sheet.now (take stored.words w) ++ drop stored.words w) w
  pub output : after ≡ cond (lends (length w) (length out) stored) (overwritten (asked stored.paged stored.sheet.now stored.words stored.room) (take stored.room out) ++ drop stored.room out) out
