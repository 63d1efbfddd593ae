-- The words of a text: names, brackets and commas as they come, in which a sum inside a sum loses its name and brackets.
-- Definitions only.
use Rattle.std.specs.Prelude.{ℕ, zero, suc, ◌-◌, Bool, true, false, cond, List, [], ◌∷◌, ◌++◌, eqb, length}
use Rattle.std.specs.Prelude.{Option, Some, None}
use Rattle.rules.specs.Bytes.{Text, same}
use Rattle.rules.specs.Maybe.{◌>>=◌}
use Rattle.rules.specs.Tree.{tamtplus}
use Rattle.sheet.specs.Places.{word_of}
use Rattle.syntax.specs.Next.{next_symbol}
use Rattle.syntax.specs.declared.symbols.Symbol.{Symbol}
use Rattle.syntax.specs.declared.symbols.Symbol.TheVariants.{Begin, Shut, Comma, Name, Stop}
use Rattle.runs.specs.declared.TheConstants.{OPEN, SHUT, COMMA, PLUS}
use Rattle.runs.specs.Texts.{word_text}
use Rattle.flattening.specs.declared.brackets.Bracket.{Bracket}
use Rattle.flattening.specs.declared.brackets.Bracket.TheVariants.{Plain, Sum, Inner}

-- a token of a text; a name by its word
pub data Item : Type 0 where
  begin shut comma : Item
  name : ℕ → Item

abbrev pub item_before : Item → Option (List Item) → Option (List Item)
item_before i o = o >>= λ is. Some (i ∷ is)

-- the items from a symbol on, where `from` gives those from a position on
abbrev pub items_by : Option Symbol → (ℕ → Option (List Item)) → Option (List Item)
items_by (Some (Begin to)) from = item_before begin (from to)
items_by (Some (Shut to)) from = item_before shut (from to)
items_by (Some (Comma to)) from = item_before comma (from to)
items_by (Some (Name place)) from = item_before (name (word_of place)) (from place.to)
items_by (Some Stop) from = Some []
items_by None from = None

-- the items from a position on, at most so many
unfoldable pub items : ℕ → Text → ℕ → Option (List Item)
items zero s at = None
items (suc k) s at = items_by (next_symbol s at) (items k s)

-- all of them
unfoldable pub items_at : Text → ℕ → Option (List Item)
unfolding items
items_at s at = items (suc (length s - at)) s at

-- a term is wanted; a name is there; a term is there
pub data Mode : Type 0 where
  wanting having : Mode
  naming : ℕ → Mode

-- words in front of those that follow
abbrev pub emits : List ℕ → Option (List ℕ) → Option (List ℕ)
emits l o = o >>= λ m. Some (l ++ m)

-- the word's text is the name of sums
unfoldable pub adds : Text → ℕ → Bool
adds s x = same (word_text s x) tamtplus

-- the bracket that a name opens, of a sum or not, in a sum or not
abbrev pub bracket : Bool → Bool → Bracket
bracket true true = Inner
bracket true false = Sum
bracket false b = Plain

-- the list of a bracket is a sum's
abbrev pub of_sum : Bracket → Bool
of_sum Plain = false
of_sum Sum = true
of_sum Inner = true

-- the last bracket that was opened, which comes first, and whether its list is a sum's
abbrev pub last_open : List Bracket → Bracket
last_open [] = Plain
last_open (c ∷ cs) = c

abbrev pub in_sum : List Bracket → Bool
in_sum cs = of_sum (last_open cs)

-- what is written for a name and its bracket, and for the bracket that closes it
abbrev pub opening : Bracket → ℕ → List ℕ
opening Plain x = x ∷ OPEN ∷ []
opening Sum x = PLUS ∷ OPEN ∷ []
opening Inner x = []

abbrev pub closing : Bracket → List ℕ
closing Plain = SHUT ∷ []
closing Sum = SHUT ∷ []
closing Inner = []

-- the words of items, none where they are no term
module _ (s : Text) where
  abbrev pub all_closed : List Bracket → Option (List ℕ)
  all_closed [] = Some []
  all_closed (c ∷ cs) = None

  unfoldable pub write : List Item → Mode → List Bracket → Option (List ℕ)
  write [] wanting cs = None
  write [] (naming x) cs = emits (x ∷ []) (all_closed cs)
  write [] having cs = all_closed cs
  write (begin ∷ is) wanting cs = None
  write (begin ∷ is) (naming x) cs = emits (opening (bracket (adds s x) (in_sum cs)) x) (write is wanting (bracket (adds s x) (in_sum cs) ∷ cs))
  write (begin ∷ is) having cs = None
  write (shut ∷ is) wanting cs = None
  write (shut ∷ is) (naming x) [] = None
  write (shut ∷ is) (naming x) (c ∷ cs) = emits (x ∷ []) (emits (closing c) (write is having cs))
  write (shut ∷ is) having [] = None
  write (shut ∷ is) having (c ∷ cs) = emits (closing c) (write is having cs)
  write (comma ∷ is) wanting cs = None
  write (comma ∷ is) (naming x) [] = None
  write (comma ∷ is) (naming x) (c ∷ cs) = emits (x ∷ []) (emits (COMMA ∷ []) (write is wanting (c ∷ cs)))
  write (comma ∷ is) having [] = None
  write (comma ∷ is) having (c ∷ cs) = emits (COMMA ∷ []) (write is wanting (c ∷ cs))
  write (name y ∷ is) wanting cs = write is (naming y) cs
  write (name y ∷ is) (naming x) cs = None
  write (name y ∷ is) having cs = None

  -- if there are items
  abbrev pub writes : Option (List Item) → Mode → List Bracket → Option (List ℕ)
  writes o m cs = o >>= λ is. write is m cs

-- the words of the text t from a position on; the names are places of s
unfoldable pub text_words : Text → Text → ℕ → Option (List ℕ)
unfolding items_at write
text_words s t at = writes s (items_at t at) wanting []

-- the bracket that a number stands for
abbrev pub bracket_at : ℕ → Bracket
bracket_at c = cond (eqb c 0) Plain (cond (eqb c 2) Inner Sum)
