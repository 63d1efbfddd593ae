-- The variables of trees as places in the work area. Definitions only.
use Rattle.std.specs.Prelude.{ℕ, ◌+◌, ◌/◌, ◌%◌, ◌≤◌, ◌≡◌, Bool, true, false, length, take}
use mathlib.Core.List.{List, [], ◌∷◌, map, Memᴰ}
use Rattle.std.proofs.Math.Seq.{slice}
use Rattle.rules.specs.Bytes.{Text, same}
use Rattle.rules.specs.Names.{variable_token}
use Rattle.rules.specs.Tree.{Tree, Trees, variable_names, variable_names_in}
use Rattle.rules.specs.Tidy.{Built, Builts}
use Rattle.text.specs.Places.{text_at}
use Rattle.text.specs.Frames.{Outside}
use Rattle.flattening.specs.declared.writer.Writer.{Writer}
use Rattle.variables.specs.Ordered.{ordered_once, unique}

-- no name is longer than a sheet
abbrev pub Short : List Text → Type 0
Short ns = (x : Text) → Memᴰ x ns → length x ≤ 65536

-- a tree as it is read of a sheet, and a list of such trees
pub record Readable (t : Tree) : Type 0 where
  pub built : Built t
  pub short : Short (variable_names t)

pub record ReadableAll (ts : Trees) : Type 0 where
  pub built : Builts ts
  pub short : Short (variable_names_in ts)

-- a place whose text is a variable
pub record Variable (s : Text) (x : ℕ) : Type 0 where
  pub token : variable_token (text_at s x) ≡ true
  pub inside : x / 65536 + x % 65536 ≤ length s

unfoldable pub Variables : Text → List ℕ → Type 0
Variables s [] = Unit {0}
Variables s (x ∷ xs) = Variable s x × Variables s xs

-- the places of the variables ns, from `at` to `end`
pub record VariablePlaces (s : Text) (w v : List ℕ) (at end most : ℕ) (ns : List Text) : Type 0 where
  pub kept : Outside w v at end
  pub grew : at ≤ end
  pub most_is : end ≤ at + most
  pub places : Variables s (slice at end v)
  pub are : map (text_at s) (slice at end v) ≡ ns

-- y is x with the places of the variables ns, at most so many
pub record PlacesWritten (s : Text) (x y : Writer) (most : ℕ) (ns : List Text) : Type 0 where
  pub lent : y.words.ghost_name ≡ x.words.ghost_name
  pub named : VariablePlaces s x.words.now y.words.now x.end y.end most ns

-- the first of the texts is also the second
unfoldable pub repeats : List Text → Bool
unfolding same
repeats [] = false
repeats (x ∷ []) = false
repeats (x ∷ y ∷ l) = same x y

-- the first r words of v are the places w without repeats
pub record Dropped (s : Text) (w v : List ℕ) (r : ℕ) : Type 0 where
  pub len : length v ≡ length w
  pub most_is : r ≤ length w
  pub places : Variables s w → Variables s (take r v)
  pub are : map (text_at s) (take r v) ≡ unique (map (text_at s) w)

-- the places of the variables ns in byte order, each once, from `at` to r
pub record Ordered (s : Text) (w v : List ℕ) (at r most : ℕ) (ns : List Text) : Type 0 where
  pub kept : Outside w v at (at + most + most)
  pub grew : at ≤ r
  pub most_is : r ≤ at + most
  pub places : Variables s (slice at r v)
  pub are : map (text_at s) (slice at r v) ≡ ordered_once ns
