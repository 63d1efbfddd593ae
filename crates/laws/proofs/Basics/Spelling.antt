-- How names are spelled: the bytes of words and variables, of which none is a bracket or a comma, no word is a variable, and heads
-- that are one are heads of one kind.
use mathlib.Core.Path.{◌≡◌, refl, sym, ◌∙◌, ap, ap₂, subst}
use mathlib.Core.Logic.{◌≢◌, ◌⊎◌, inl, inr}
use mathlib.Core.Bool.{Bool, true, false, cond, ◌&&◌, ◌||◌, true≢false, false≢true}
use mathlib.Core.List.{[], ◌∷◌, cons≢nil, head-eq_of_cons-eq, tail-eq_of_cons-eq, append_cancel_right}
use Prim.Native.Nat.{ℕ, ◌+◌}
use native.Mathlib.Omega.{arith}
use lib.Dec.{eqb}
use Rattle.rules.specs.Bytes.{Text}
use Rattle.rules.specs.Text.{count_of}
use Rattle.rules.specs.Names.{digit, alphabetic, alphanumeric, all, identifier, number, word, indexed, variable_token, letter}
use Rattle.rules.specs.Tree.{Tree, variable, atom, apply, Trees, atom_text, head, children, count}
use Rattle.rules.specs.Equality.{Ac, reflexive, congruent, ACs}
use Rattle.rules.specs.Tidy.{Tidy}
use Rattle.laws.proofs.Basics.Tests.{and_left, and_right, and_both, or_cases, or_left, or_right, eqb_true}
use Rattle.laws.proofs.Basics.Bytes.{not_passed, all_more, all_weaker}

-- no bracket and no comma
pub data Plain : Text → Type 0 where
  end : Plain []
  byte : {x : ℕ} {n : Text} → x ≢ 40 → x ≢ 41 → x ≢ 44 → Plain n → Plain (x ∷ n)

-- The bytes of names and variables

abbrev pub name_byte : ℕ → Bool
name_byte b = alphanumeric b || (eqb b 58 || (eqb b 35 || eqb b 37))

alphanumeric_byte : (x : ℕ) → alphanumeric x ≡ true → name_byte x ≡ true
alphanumeric_byte x h = or_left (alphanumeric x) (eqb x 58 || (eqb x 35 || eqb x 37)) h

alphabetic_byte : (x : ℕ) → alphabetic x ≡ true → name_byte x ≡ true
unfolding alphanumeric
alphabetic_byte x h = alphanumeric_byte x (or_left (alphabetic x) (digit x) h)

digit_byte : (x : ℕ) → digit x ≡ true → name_byte x ≡ true
unfolding alphanumeric
digit_byte x h = alphanumeric_byte x (rw h (or_right (alphabetic x)))

-- a test that only these bytes pass
is_byte : (x y : ℕ) → eqb x y ≡ true → name_byte y ≡ true → name_byte x ≡ true
is_byte x y e h = ap name_byte (eqb_true x y e) ∙ h

pub number_bytes : (n : Text) → number n ≡ true → all name_byte n ≡ true
unfolding number all
number_bytes [] e = refl
number_bytes (b ∷ n) e = all_weaker digit name_byte digit_byte (b ∷ n) e

identifier_bytes : (n : Text) → identifier n ≡ true → all name_byte n ≡ true
unfolding identifier
identifier_bytes [] e = absurd (false≢true e)
identifier_bytes (b ∷ n) e =
    all_more name_byte b n (alphabetic_byte b (and_left (alphabetic b) (all alphanumeric n) e))
    (all_weaker alphanumeric name_byte alphanumeric_byte n (and_right (alphabetic b) (all alphanumeric n) e))

pub word_bytes : (n : Text) → word n ≡ true → all name_byte n ≡ true
unfolding word
word_bytes n e = go (or_cases (identifier n) (number n) e)
  where
    go : (identifier n ≡ true) ⊎ (number n ≡ true) → all name_byte n ≡ true
    go (inl h) = identifier_bytes n h
    go (inr h) = number_bytes n h

indexed_bytes : (n : Text) → indexed n ≡ true → all name_byte n ≡ true
unfolding indexed
indexed_bytes [] e = absurd (false≢true e)
indexed_bytes (b ∷ n) e = go (eqb b 58) refl e (indexed_bytes n)
  where
    go : (c : Bool) → eqb b 58 ≡ c → cond c (identifier n) (digit b && indexed n) ≡ true → (indexed n ≡ true → all name_byte n ≡ true)
        → all name_byte (b ∷ n) ≡ true
    go true p h k = all_more name_byte b n (is_byte b 58 p refl) (identifier_bytes n h)
    go false p h k = all_more name_byte b n (digit_byte b (and_left (digit b) (indexed n) h)) (k (and_right (digit b) (indexed n) h))

-- the first byte of a variable
abbrev sigil : ℕ → Bool
sigil b = eqb b 120 || eqb b 35 || eqb b 37

sigil_byte : (b : ℕ) → sigil b ≡ true → name_byte b ≡ true
unfolding alphanumeric alphabetic
sigil_byte b e = go (or_cases (eqb b 120 || eqb b 35) (eqb b 37) e)
  where
    first : (eqb b 120 ≡ true) ⊎ (eqb b 35 ≡ true) → name_byte b ≡ true
    first (inl h) = is_byte b 120 h refl
    first (inr h) = is_byte b 35 h refl

    go : ((eqb b 120 || eqb b 35) ≡ true) ⊎ (eqb b 37 ≡ true) → name_byte b ≡ true
    go (inl h) = first (or_cases (eqb b 120) (eqb b 35) h)
    go (inr h) = is_byte b 37 h refl

pub variable_bytes : (x : Text) → variable_token x ≡ true → all name_byte x ≡ true
unfolding variable_token
variable_bytes [] e = absurd (false≢true e)
variable_bytes (b ∷ []) e = absurd (false≢true e)
variable_bytes (b ∷ c ∷ n) e =
    let h = and_right (sigil b) (digit c && indexed n) e in
    all_more name_byte b (c ∷ n) (sigil_byte b (and_left (sigil b) (digit c && indexed n) e))
    (all_more name_byte c n (digit_byte c (and_left (digit c) (indexed n) h)) (indexed_bytes n (and_right (digit c) (indexed n) h)))

pub token_bytes : (n : Text) → (word n || variable_token n) ≡ true → all name_byte n ≡ true
token_bytes n e = go (or_cases (word n) (variable_token n) e)
  where
    go : (word n ≡ true) ⊎ (variable_token n ≡ true) → all name_byte n ≡ true
    go (inl h) = word_bytes n h
    go (inr h) = variable_bytes n h

-- none of them is a bracket or a comma

plain_bytes : (n : Text) → all name_byte n ≡ true → Plain n
unfolding all alphanumeric alphabetic digit
plain_bytes [] e = end
plain_bytes (b ∷ n) e =
    let h = and_left (name_byte b) (all name_byte n) e in
    byte (not_passed name_byte b 40 h refl) (not_passed name_byte b 41 h refl) (not_passed name_byte b 44 h refl)
    (plain_bytes n (and_right (name_byte b) (all name_byte n) e))

pub number_plain : (n : Text) → number n ≡ true → Plain n
number_plain n e = plain_bytes n (number_bytes n e)

pub word_plain : (n : Text) → word n ≡ true → Plain n
word_plain n e = plain_bytes n (word_bytes n e)

pub variable_plain : (x : Text) → variable_token x ≡ true → Plain x
variable_plain x e = plain_bytes x (variable_bytes x e)

pub token_plain : (n : Text) → (word n || variable_token n) ≡ true → Plain n
token_plain n e = plain_bytes n (token_bytes n e)

pub letter_plain : (c : ℕ) → letter c ≡ true → Plain (c ∷ [])
unfolding letter
letter_plain c e = byte (not_passed letter c 40 e refl) (not_passed letter c 41 e refl) (not_passed letter c 44 e refl) end

colon_other : alphanumeric 58 ≡ false
unfolding alphanumeric
colon_other = refl

-- a variable holds a colon, where a word has none
colonless : (n : Text) → all alphanumeric n ≡ true → indexed n ≡ false
unfolding all indexed
colonless [] e = refl
colonless (b ∷ n) e = go (eqb b 58) refl (digit b) (colonless n (and_right (alphanumeric b) (all alphanumeric n) e))
  where
    go : (c : Bool) → eqb b 58 ≡ c → (d : Bool) → indexed n ≡ false → cond c (identifier n) (d && indexed n) ≡ false
    go true p d h = absurd (not_passed alphanumeric b 58 (and_left (alphanumeric b) (all alphanumeric n) e) colon_other (eqb_true b 58 p))
    go false p true h = h
    go false p false h = refl

and_false : (a b c : Bool) → c ≡ false → (a && (b && c)) ≡ false
and_false true true c h = h
and_false true false c h = refl
and_false false b c h = refl

pub digits_alphanumeric : (n : Text) → all digit n ≡ true → all alphanumeric n ≡ true
unfolding all alphanumeric
digits_alphanumeric [] e = refl
digits_alphanumeric (b ∷ n) e = go (alphabetic b) (digit b) (and_left (digit b) (all digit n) e) (digits_alphanumeric n (and_right (digit b) (all digit n) e))
  where
    go : (a d : Bool) → d ≡ true → all alphanumeric n ≡ true → ((a || d) && all alphanumeric n) ≡ true
    go true d p h = h
    go false true p h = h
    go false false p h = absurd (false≢true p)

tail_alphanumeric : (b c : ℕ) (n : Text) → word (b ∷ c ∷ n) ≡ true → all alphanumeric n ≡ true
unfolding word identifier number all
tail_alphanumeric b c n e = go (or_cases (identifier (b ∷ c ∷ n)) (number (b ∷ c ∷ n)) e)
  where
    go : ((alphabetic b && (alphanumeric c && all alphanumeric n)) ≡ true) ⊎ ((digit b && (digit c && all digit n)) ≡ true) → all alphanumeric n ≡ true
    go (inl h) = and_right (alphanumeric c) (all alphanumeric n) (and_right (alphabetic b) (alphanumeric c && all alphanumeric n) h)
    go (inr h) = digits_alphanumeric n (and_right (digit c) (all digit n) (and_right (digit b) (digit c && all digit n) h))

pub word_no_variable : (n : Text) → word n ≡ true → variable_token n ≡ false
unfolding variable_token
word_no_variable [] e = refl
word_no_variable (b ∷ []) e = refl
word_no_variable (b ∷ c ∷ n) e = and_false (sigil b) (digit c) (indexed n) (colonless n (tail_alphanumeric b c n e))

-- no name is an atom's text
plain_no_atom : (c : ℕ) (d : Text) {n : Text} → Plain n → atom_text c d ≡ n → ⊥
plain_no_atom c d end e = cons≢nil e
plain_no_atom c d (byte p q r end) e = cons≢nil (tail-eq_of_cons-eq e)
plain_no_atom c d (byte p q r (byte p' q' r' h)) e = p' (sym (head-eq_of_cons-eq (tail-eq_of_cons-eq e)))

-- trees of one head
pub data SameHead : Tree → Tree → Type 0 where
  equal : {t u : Tree} → t ≡ u → count (children t) ≡ count (children u) → SameHead t u
  applications : {f g : Text} {ts us : Trees} → f ≡ g → count ts ≡ count us → SameHead (apply f ts) (apply g us)

module _ (arity : Text → ℕ) where
  pub same_head : (t u : Tree) → Tidy arity t → Tidy arity u → head t ≡ head u → SameHead t u
  unfolding head children
  same_head (variable x) (variable y) d k e = equal (ap variable e) refl
  same_head (variable x) (atom c n) d k e = absurd (plain_no_atom c n (variable_plain x d.2) (sym e))
  same_head (variable x) (apply g us) d k e = absurd (true≢false (sym d.2 ∙ ap variable_token e ∙ word_no_variable g k.1))
  same_head (atom c n) (variable y) d k e = absurd (plain_no_atom c n (variable_plain y k.2) e)
  same_head (atom c n) (atom b m) d k e =
      let p : c ≡ b = head-eq_of_cons-eq e in
      let q : n ≡ m = append_cancel_right n m (41 ∷ []) (tail-eq_of_cons-eq (tail-eq_of_cons-eq e)) in
      equal (ap₂ atom p q) refl
  same_head (atom c n) (apply g us) d k e = absurd (plain_no_atom c n (word_plain g k.1) e)
  same_head (apply f ts) (variable y) d k e = absurd (true≢false (sym k.2 ∙ ap variable_token (sym e) ∙ word_no_variable f d.1))
  same_head (apply f ts) (atom c n) d k e = absurd (plain_no_atom c n (word_plain f d.1) (sym e))
  same_head (apply f ts) (apply g us) d k e = applications e (d.0 ∙ ap arity e ∙ sym k.0)

pub same_count : {t u : Tree} → SameHead t u → count (children t) ≡ count (children u)
unfolding children
same_count (equal e c) = c
same_count (applications e c) = c

-- trees of one head with equal arguments are equal
pub same_root : {t u : Tree} → SameHead t u → ACs (children t) (children u) → Ac t u
unfolding children
same_root {t} (equal e c) h = subst (Ac t) e reflexive
same_root (applications {f = f} {ts = ts} {us = us} e c) h = subst (λ (g : Text). Ac (apply f ts) (apply g us)) e (congruent h)

-- A leaf with a colon is a variable

pub differs : (c : ℕ) → alphanumeric c ≡ true → eqb c 58 ≡ false
unfolding alphanumeric
differs c h = go (eqb c 58) refl
  where
    go : (b : Bool) → eqb c 58 ≡ b → b ≡ false
    go true e = absurd (false≢true (subst (λ (x : ℕ). alphanumeric x ≡ true) (eqb_true c 58 e) h))
    go false e = refl

pub no_colons : (n : Text) → all alphanumeric n ≡ true → count_of 58 n ≡ 0
unfolding all count_of
no_colons [] h = refl
no_colons (b ∷ n) h =
    rw (differs b (and_left (alphanumeric b) (all alphanumeric n) h), no_colons n (and_right (alphanumeric b) (all alphanumeric n) h)) refl

pub identifier_all : (n : Text) → identifier n ≡ true → all alphanumeric n ≡ true
unfolding identifier all alphanumeric
identifier_all [] h = refl
identifier_all (b ∷ n) h =
    and_both (alphabetic b || digit b) (all alphanumeric n) (or_left (alphabetic b) (digit b) (and_left (alphabetic b) _ h)) (and_right (alphabetic b) _ h)

pub number_all : (n : Text) → number n ≡ true → all digit n ≡ true
unfolding number all
number_all [] h = refl
number_all (b ∷ n) h = h

pub word_colons : (n : Text) → word n ≡ true → count_of 58 n ≡ 0
unfolding word
word_colons n h = go (identifier n) refl h
  where
    go : (x : Bool) → identifier n ≡ x → (x || number n) ≡ true → count_of 58 n ≡ 0
    go true e k = no_colons n (identifier_all n e)
    go false e k = no_colons n (digits_alphanumeric n (number_all n k))

some_colon : (n : Text) → indexed n ≡ true → count_of 58 n ≡ 0 → ⊥
unfolding indexed count_of
some_colon [] h e = false≢true h
some_colon (b ∷ n) h e = go (eqb b 58) h e (some_colon n)
  where
    go : (x : Bool) → cond x (identifier n) (digit b && indexed n) ≡ true → cond x 1 0 + count_of 58 n ≡ 0 → (indexed n ≡ true → count_of 58 n ≡ 0 → ⊥) → ⊥
    go true k f g = omega arith
    go false k f g = g (and_right (digit b) (indexed n) k) (omega arith)

pub variable_colon : (n : Text) → variable_token n ≡ true → count_of 58 n ≡ 0 → ⊥
unfolding variable_token count_of
variable_colon [] h e = false≢true h
variable_colon (b ∷ []) h e = false≢true h
variable_colon (b ∷ c ∷ n) h e = some_colon n (and_right (digit c) (indexed n) (and_right (eqb b 120 || eqb b 35 || eqb b 37) (digit c && indexed n) h)) (omega arith)

pub not_zero : (k : ℕ) → (k ≡ 0 → ⊥) → eqb k 0 ≡ false
not_zero k h = go (eqb k 0) refl
  where
    go : (x : Bool) → eqb k 0 ≡ x → x ≡ false
    go true e = absurd (h (eqb_true k 0 e))
    go false e = refl
