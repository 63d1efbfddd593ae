-- Terms with their sums flattened, their words, and the trees that terms spell. Definitions only.
use Rattle.std.specs.Prelude.{ℕ, ◌≡◌, Bool, true, false, List, [], ◌∷◌}
use Rattle.rules.specs.Bytes.{Text}
use Rattle.rules.specs.Tree.{Tree, variable, atom, apply, Trees}
use Rattle.rules.specs.Tree as T
use Rattle.runs.specs.declared.TheConstants.{OPEN, SHUT, COMMA, PLUS}
use Rattle.runs.specs.Texts.{word_text, Token}
use Rattle.flattening.specs.Terms.{Term, node, Terms, none, more, inner, words, words_each}
use Rattle.flattening.specs.Items.{adds}

-- no mark
pub record NoMark (x : ℕ) : Type 0 where
  pub no_open : x ≡ OPEN → ⊥
  pub no_shut : x ≡ SHUT → ⊥
  pub no_comma : x ≡ COMMA → ⊥

-- a term by its name, its arguments, and its summands if it is a sum
abbrev pub flat_by : Bool → ℕ → Terms → Terms → Term
flat_by b x none us = node x none
flat_by true x (more t ts) us = node PLUS us
flat_by false x (more t ts) us = node x (more t ts)

-- the summands that it gives to a sum, before others: us are those that a sum gives
abbrev pub splice_by : Bool → ℕ → Terms → Terms → Terms → Terms
splice_by b x none us rest = more (node x none) rest
splice_by true x (more t ts) us rest = us
splice_by false x (more t ts) us rest = more (node x (more t ts)) rest

module _ (s : Text) where
  unfoldable mutual
    unfolding adds

    pub flatten : Term → Term
    flatten (node x ts) = flat_by (adds s x) x (flattens ts) (splices ts none)

    pub flattens : Terms → Terms
    flattens none = none
    flattens (more t ts) = more (flatten t) (flattens ts)

    pub splice : Term → Terms → Terms
    splice (node x ts) rest = splice_by (adds s x) x (flattens ts) (splices ts rest) rest

    pub splices : Terms → Terms → Terms
    splices none rest = rest
    splices (more t ts) rest = splice t (splices ts rest)

  -- a word of a name: no mark, and not that of sums
  pub record Word (x : ℕ) : Type 0 where
    pub token : Token s x
    pub plain : NoMark x
    pub other : x ≡ PLUS → ⊥

  -- the tree that a term spells
  mutual
    pub data Spells : Term → Tree → Type 0 where
      as_variable : {x : ℕ} {n : Text} → Word x → word_text s x ≡ n → Spells (node x none) (variable n)
      as_atom : {x y c : ℕ} {d : Text} → Word x → Word y → word_text s x ≡ c ∷ [] → word_text s y ≡ d → Spells (node x (more (node y none) none)) (atom c d)
      as_apply : {x : ℕ} {n : Text} {ts : Terms} {us : Trees} → Word x → word_text s x ≡ n → SpellsAll ts us → Spells (node x ts) (apply n us)

    pub data SpellsAll : Terms → Trees → Type 0 where
      spell_none : SpellsAll none T.none
      spell_more : {t : Term} {u : Tree} {ts : Terms} {us : Trees} → Spells t u → SpellsAll ts us → SpellsAll (more t ts) (T.more u us)

  -- the words of a term and of a list of terms, in a sum or not
  abbrev pub term_words : Bool → Term → List ℕ
  term_words true t = inner (words_each (splice t none))
  term_words false t = words (flatten t)

  abbrev pub list_words : Bool → Term → Terms → List ℕ
  list_words true t ts = inner (words_each (splice t (splices ts none)))
  list_words false t ts = inner (words (flatten t) ∷ words_each (flattens ts))
