-- Terms whose names are words, their words, and their canonical words: the summands of each sum sorted by their texts. Definitions only.
use Rattle.std.specs.Prelude.{ℕ, cond, List, [], ◌∷◌, ◌++◌, eqb}
use Rattle.rules.specs.Bytes.{upto, sort}
use Rattle.rules.specs.Writing.{listed}
use Rattle.laws.specs.Sorting.{sort_by}
use Rattle.runs.specs.declared.TheConstants.{OPEN, SHUT, COMMA}
use Rattle.runs.specs.Texts.{word_text, texts}

mutual
  pub data Term : Type 0 where
    node : ℕ → Terms → Term

  pub data Terms : Type 0 where
    none : Terms
    more : Term → Terms → Terms

-- lists of words with commas between them
unfoldable pub inner : List (List ℕ) → List ℕ
inner [] = []
inner (l ∷ []) = l
inner (l ∷ (m ∷ ls)) = l ++ (COMMA ∷ inner (m ∷ ls))

-- lists of words, sorted by their texts
unfoldable pub sort_words : List ℕ → List (List ℕ) → List (List ℕ)
unfolding sort_by
sort_words s ls = sort_by (λ l m. upto (texts s l) (texts s m)) ls

-- a name and its list
unfoldable pub headed : ℕ → List (List ℕ) → List ℕ
headed x [] = x ∷ []
headed x (l ∷ ls) = x ∷ (OPEN ∷ (inner (l ∷ ls) ++ (SHUT ∷ [])))

unfoldable mutual
  unfolding headed

  pub words : Term → List ℕ
  words (node x ts) = headed x (words_each ts)

  pub words_each : Terms → List (List ℕ)
  words_each none = []
  words_each (more t ts) = words t ∷ words_each ts

-- the canonical words of a term in which no sum is a summand
unfoldable mutual
  unfolding headed sort_words

  pub canonical : List ℕ → ℕ → Term → List ℕ
  canonical s plus (node x ts) = headed x (cond (eqb x plus) (sort_words s (canonicals s plus ts)) (canonicals s plus ts))

  pub canonicals : List ℕ → ℕ → Terms → List (List ℕ)
  canonicals s plus none = []
  canonicals s plus (more t ts) = canonical s plus t ∷ canonicals s plus ts

-- the canonical text of a term in which no sum is a summand
unfoldable mutual
  unfolding listed sort word_text

  pub canon_text : List ℕ → ℕ → Term → List ℕ
  canon_text s plus (node x ts) = listed (word_text s x) (cond (eqb x plus) (sort (canon_texts s plus ts)) (canon_texts s plus ts))

  pub canon_texts : List ℕ → ℕ → Terms → List (List ℕ)
  canon_texts s plus none = []
  canon_texts s plus (more t ts) = canon_text s plus t ∷ canon_texts s plus ts
