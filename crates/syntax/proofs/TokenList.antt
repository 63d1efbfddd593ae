-- The tokens from a position of a text on.
use mathlib.Core.Path.{◌≡◌, refl, ap, ◌∙◌}
use mathlib.Core.List.{List, [], ◌∷◌}
use Rattle.std.specs.Prelude.{Option, Some, None}
use mathlib.Core.Bool.{Bool, true, false, cond, ◌&&◌}
use Prim.Native.Nat.{ℕ, zero, suc, ◌+◌, ◌<◌, ◌≤◌}
use native.Mathlib.Omega.{arith}
use lib.ListN.{length, get_or, take, drop, length-drop}
use lib.Dec.{eqb, ltb}
use lib.Seq.{drop-drop}
use Rattle.rules.specs.Bytes.{Text}
use Rattle.rules.specs.Maybe.{◌>>=◌, guard}
use Rattle.rules.specs.Names.{digit, alphabetic, alphanumeric}
use Rattle.rules.specs.Tokens.{run_length, sigil, mark, sort_length, variable_rest, plain_rest, rest_length, tokens_after, tokens}
use Rattle.text.proofs.Loops.{drop_next}
use Rattle.syntax.specs.Next.{blank, start_at}
use Rattle.syntax.proofs.Runs.{run_le}

-- to pass over k bytes is to start after them
pub tokens_drop : (k : ℕ) (s : Text) → tokens_after k s ≡ tokens (drop k s)
unfolding tokens tokens_after
tokens_drop zero [] = refl
tokens_drop (suc k) [] = refl
tokens_drop zero (b ∷ s) = refl
tokens_drop (suc k) (b ∷ s) = tokens_drop k s

-- a token in front of those after it
abbrev pub joined : Text → Option (List Text) → Option (List Text)
joined t o = o >>= λ ts. Some (t ∷ ts)

-- what stands after the blanks: nothing, or a token and the tokens after it
abbrev pub front : Text → Option (List Text)
front [] = Some []
front (b ∷ s) = rest_length b s >>= λ n. joined (b ∷ take n s) (tokens_after n s)

front_turn : (b : ℕ) (s : Text) (t : Bool) → tokens s ≡ front (drop (run_length blank s) s)
    → elim t [ true ↦ tokens_after 0 s | false ↦ front (b ∷ s) ] ≡ front (drop (elim t [ true ↦ suc (run_length blank s) | false ↦ 0 ]) (b ∷ s))
unfolding tokens
front_turn b s true h = h
front_turn b s false h = refl

pub tokens_front : (s : Text) → tokens s ≡ front (drop (run_length blank s) s)
unfolding tokens tokens_after run_length
tokens_front [] = refl
tokens_front (b ∷ s) = front_turn b s (eqb b 32) (tokens_front s)

-- a token stays within the text
sort_le : (l : Text) (n : ℕ) → sort_length l ≡ Some n → n ≤ length l
unfolding sort_length
sort_le [] n e = cc
sort_le (b ∷ []) n e = cc
sort_le (b ∷ c ∷ l) n e = go (eqb b 58 && alphabetic c) e
  where
    go : (t : Bool) → (guard t >>= λ _. Some (suc (suc (run_length alphanumeric l)))) ≡ Some n → n ≤ suc (suc (length l))
    go true f = let z : n ≡ suc (suc (run_length alphanumeric l)) = cc in omega (arith, run_le alphanumeric l)
    go false f = cc

variable_le : (b : ℕ) (s : Text) (n : ℕ) → variable_rest b s ≡ Some n → n ≤ length s
unfolding variable_rest
variable_le b s n e = go (sigil b && ltb 0 (run_length digit s)) (sort_length (drop (run_length digit s) s)) (sort_le (drop (run_length digit s) s)) e
  where
    go : (t : Bool) (o : Option ℕ) → ((k : ℕ) → o ≡ Some k → k ≤ length (drop (run_length digit s) s))
        → (guard t >>= λ _. o >>= λ m. Some (run_length digit s + m)) ≡ Some n → n ≤ length s
    go true (Some m) h f = let z : n ≡ run_length digit s + m = cc in omega (arith, h m refl, run_le digit s, length-drop (run_length digit s) s)
    go true None h f = cc
    go false o h f = cc

plain_le : (b : ℕ) (s : Text) (n : ℕ) → plain_rest b s ≡ Some n → n ≤ length s
unfolding plain_rest
plain_le b s n e = go (alphabetic b) (digit b) (mark b) e
  where
    go : (x y z : Bool) → elim x [ true ↦ Some (run_length alphanumeric s) | false ↦ elim y [ true ↦ Some (run_length digit s) | false ↦ cond z (Some 0) None ] ] ≡ Some n → n ≤ length s
    go true y z f = let e : n ≡ run_length alphanumeric s = cc in omega (arith, run_le alphanumeric s)
    go false true z f = let e : n ≡ run_length digit s = cc in omega (arith, run_le digit s)
    go false false true f = let e : n ≡ 0 = cc in omega arith
    go false false false f = cc

pub rest_le : (b : ℕ) (s : Text) (n : ℕ) → rest_length b s ≡ Some n → n ≤ length s
unfolding rest_length
rest_le b s n e = go (variable_rest b s) (variable_le b s) e
  where
    go : (o : Option ℕ) → ((k : ℕ) → o ≡ Some k → k ≤ length s) → elim o [ Some m ↦ Some m | None ↦ plain_rest b s ] ≡ Some n → n ≤ length s
    go (Some m) h f = h n f
    go None h f = plain_le b s n f

-- the tokens from a position on, at the place j after the blanks
module _ (s : Text) (at j : ℕ) (is : j ≡ start_at s at) where
  pub tokens_at : tokens (drop at s) ≡ front (drop j s)
  tokens_at = tokens_front (drop at s) ∙ rw (is, ← drop-drop (run_length blank (drop at s)) at s)

  pub tokens_there : j < length s → tokens (drop at s) ≡ (rest_length (get_or s j 0) (drop (j + 1) s) >>= λ n. joined (get_or s j 0 ∷ take n (drop (j + 1) s)) (tokens_after n (drop (j + 1) s)))
  tokens_there h = tokens_at ∙ ap front (drop_next s j h)
