-- What the writers of a tree's words do to the work area. Definitions only.
use Rattle.std.specs.Prelude.{ℕ, ◌+◌, ◌*◌, ◌≤◌, ◌≡◌, Bool, List, length}
use Rattle.std.proofs.Math.Seq.{slice}
use Rattle.rules.specs.Tree.{Tree, Trees, size, sizes}
use Rattle.rules.specs.Sums.{canonical}
use Rattle.runs.specs.Texts.{texts, Tokens}
use Rattle.flattening.specs.Terms.{Term, Terms, more}
use Rattle.flattening.specs.declared.writer.Writer.{Writer}
use Rattle.flattening.specs.Writers.{Appended}
use Rattle.flattening.specs.Spelling.{Spells, SpellsAll, term_words, list_words}
use Rattle.text.specs.Frames.{Outside}

-- y is x with the words of a term that spells t, in a sum or not
pub record TermWritten (s : List ℕ) (b : Bool) (t : Tree) (x y : Writer) : Type 0 where
  pub term : Term
  pub spells : Spells s term t
  pub words : Appended x y (term_words s b term)
  pub short : length (term_words s b term) + 1 ≤ 5 * size t

-- y is x with the words of terms that spell ts, at least one
pub record TermsWritten (s : List ℕ) (b : Bool) (ts : Trees) (x y : Writer) : Type 0 where
  pub term : Term
  pub terms : Terms
  pub spells : SpellsAll s (more term terms) ts
  pub words : Appended x y (list_words s b term terms)
  pub short : length (list_words s b term terms) + 1 ≤ 5 * sizes ts

-- the words of v from base to r have the canonical text of t
pub record Canon (s w v : List ℕ) (t : Tree) (base r : ℕ) : Type 0 where
  pub kept : Outside w v base (base + 15 * size t)
  pub low : base ≤ r
  pub room : r + 1 ≤ base + 5 * size t
  pub text : texts s (slice base r v) ≡ canonical t
  pub tokens : Tokens s v base r

-- y is x with the canonical words of t
pub record TreeWritten (s : List ℕ) (t : Tree) (x y : Writer) : Type 0 where
  pub lent : y.words.ghost_name ≡ x.words.ghost_name
  pub canon : Canon s x.words.now y.words.now t x.end y.end
