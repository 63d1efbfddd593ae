-- What a writer of words has written, and the open brackets of a stack. Definitions only.
use Rattle.std.specs.Prelude.{ℕ, zero, suc, ◌+◌, ◌≡◌, List, [], ◌∷◌, length, get_or}
use Rattle.text.specs.Frames.{Outside, Wrote}
use Rattle.rules.specs.Bytes.{Text}
use Rattle.flattening.specs.Items.{adds, in_sum, opening, bracket, bracket_at}
use Rattle.flattening.specs.declared.writer.Writer.{Writer}
use Rattle.flattening.specs.declared.brackets.Bracket.{Bracket}
use Rattle.flattening.specs.declared.brackets.Stack.{Stack}

-- b is a with the words l written at its end
pub record Appended (a b : Writer) (l : List ℕ) : Type 0 where
  pub lent : b.words.ghost_name ≡ a.words.ghost_name
  pub wrote : Wrote a.words.now b.words.now a.end l
  pub end : b.end ≡ a.end + length l

-- the brackets of which the first d words of w are the numbers, the last one first
unfoldable pub open_brackets : List ℕ → ℕ → List Bracket
open_brackets w zero = []
open_brackets w (suc d) = bracket_at (get_or w d 0) ∷ open_brackets w d

abbrev pub open_in : Stack → List Bracket
open_in k = open_brackets k.words.now k.depth

-- b is a with one more bracket
pub record Opens (a b : Stack) (c : Bracket) : Type 0 where
  pub lent : b.words.ghost_name ≡ a.words.ghost_name
  pub outside : Outside a.words.now b.words.now a.depth (a.depth + 1)
  pub deeper : b.depth ≡ a.depth + 1
  pub held : open_in b ≡ c ∷ open_in a

-- b is a without its last bracket, c
pub record Closes (a b : Stack) (c : Bracket) : Type 0 where
  pub words : b.words ≡ a.words
  pub higher : a.depth ≡ b.depth + 1
  pub held : open_in a ≡ c ∷ open_in b

-- a name x and its bracket are written, and the bracket is open
pub record BracketOpened (s : Text) (x : ℕ) (k m : Stack) (a b : Writer) : Type 0 where
  pub opens : Opens k m (bracket (adds s x) (in_sum (open_in k)))
  pub words : Appended a b (opening (bracket (adds s x) (in_sum (open_in k))) x)
