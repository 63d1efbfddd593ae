-- What the next symbol of a text says of its tokens.
use mathlib.Core.Path.{◌≡◌, refl, ap, sym, ◌∙◌, subst}
use mathlib.Core.List.{[], ◌∷◌}
use Rattle.std.specs.Prelude.{Option, Some, None}
use mathlib.Core.Bool.{Bool, true, false, cond}
use Prim.Native.Nat.{ℕ, suc, ◌+◌, ◌-◌, ◌<◌, ◌≤◌}
use native.Mathlib.Omega.{arith}
use native.Mathlib.Decide.{ℕ_discrete}
use lib.ListN.{length, get_or, take, drop, drop_of_length-le, length-drop}
use lib.Dec.{ltb}
use lib.Seq.{drop-drop}
use borrow.Author.Tests.{eq-eqb, ne_eqb, ltb-true, ltb-false}
use Rattle.rules.specs.Bytes.{Text, same}
use Rattle.rules.specs.Maybe.{◌>>=◌}
use Rattle.rules.specs.Text.{bytes, is_one_of}
use Rattle.rules.specs.Names.{digit, alphabetic}
use Rattle.rules.specs.Tokens.{variable_rest, plain_rest, rest_length, tokens_after, tokens}
use Rattle.text.proofs.Loops.{drop_next}
use Rattle.sheet.specs.declared.Place.{Place}
use Rattle.syntax.specs.Next.{end_of, start_at, symbol_with, symbol_from, next_symbol}
use Rattle.syntax.specs.declared.symbols.Symbol.{Symbol}
use Rattle.syntax.specs.declared.symbols.Symbol.TheVariants.{Begin, Shut, Comma, Name, Stop}
use Rattle.syntax.proofs.TokenList.{joined, tokens_drop, tokens_at, tokens_there, rest_le}

-- a mark that ends at `to`
pub record Marks (s : Text) (at to : ℕ) (m : Text) : Type 0 where
  pub past : at < to
  pub within : to ≤ length s
  pub first : tokens (drop at s) ≡ joined m (tokens (drop to s))

-- a name, the bytes of a place, of which `rest` tells those after the first
pub record Names (s : Text) (at : ℕ) (name : Place) : Type 0 where
  pub past : at ≤ name.from
  pub some_bytes : name.from < name.to
  pub within : name.to ≤ length s
  pub first : tokens (drop at s) ≡ joined (take (name.to - name.from) (drop name.from s)) (tokens (drop name.to s))
  pub no_mark : is_one_of (bytes "(" ∷ bytes ")" ∷ bytes "," ∷ []) (take (name.to - name.from) (drop name.from s)) ≡ false
  pub rest : rest_length (get_or s name.from 0) (drop (name.from + 1) s) ≡ Some (name.to - (name.from + 1))

abbrev pub Means : Text → ℕ → Option Symbol → Type 0
Means s at (Some (Begin to)) = Marks s at to (bytes "(")
Means s at (Some (Shut to)) = Marks s at to (bytes ")")
Means s at (Some (Comma to)) = Marks s at to (bytes ",")
Means s at (Some (Name name)) = Names s at name
Means s at (Some Stop) = tokens (drop at s) ≡ Some []
Means s at None = tokens (drop at s) ≡ None

-- a mark has one byte
mark_size : (b c n : ℕ) (l : Text) → b ≡ c → rest_length c l ≡ Some 0 → rest_length b l ≡ Some n → n ≡ 0
mark_size b c n l e f g = let z : rest_length b l ≡ Some 0 = rw e f in cc

other_name : (b : ℕ) (l : Text) → (b ≡ 40 → ⊥) → (b ≡ 41 → ⊥) → (b ≡ 44 → ⊥) → is_one_of (bytes "(" ∷ bytes ")" ∷ bytes "," ∷ []) (b ∷ l) ≡ false
unfolding is_one_of same
other_name b l x y z = rw (ne_eqb b 40 x, ne_eqb b 41 y, ne_eqb b 44 z)

-- a token from the place j on, with n bytes after its first
module _ (s : Text) (at j n : ℕ) (is : j ≡ start_at s at) (inside : j < length s) (rest : rest_length (get_or s j 0) (drop (j + 1) s) ≡ Some n) where
  token_fits : j + 1 + n ≤ length s
  token_fits = omega (arith, rest_le (get_or s j 0) (drop (j + 1) s) n rest, length-drop (j + 1) s)

  token_bytes : take (suc n) (drop j s) ≡ get_or s j 0 ∷ take n (drop (j + 1) s)
  token_bytes = rw (drop_next s j inside)

  token_first : tokens (drop at s) ≡ joined (take (suc n) (drop j s)) (tokens (drop (j + 1 + n) s))
  token_first =
      let a : tokens_after n (drop (j + 1) s) ≡ tokens (drop (j + 1 + n) s) = tokens_drop n (drop (j + 1) s) ∙ ap tokens (drop-drop n (j + 1) s) in
      tokens_there s at j is inside
      ∙ ap (λ (o : Option ℕ). o >>= λ n. joined (get_or s j 0 ∷ take n (drop (j + 1) s)) (tokens_after n (drop (j + 1) s))) rest
      ∙ rw (token_bytes, a)

  passed : at ≤ j
  passed = omega (arith, is)

  mark_of : (c : ℕ) → get_or s j 0 ≡ c → rest_length c (drop (j + 1) s) ≡ Some 0 → Marks s at (j + 1 + n) (c ∷ [])
  mark_of c b r =
      let z = mark_size (get_or s j 0) c n (drop (j + 1) s) b r rest in
      let u : take (suc n) (drop j s) ≡ c ∷ [] = token_bytes ∙ rw (z, b) in
      record { past = omega (arith, passed); within = token_fits; first = token_first ∙ ap (λ (w : Text). joined w (tokens (drop (j + 1 + n) s))) u }

  name_of : (get_or s j 0 ≡ 40 → ⊥) → (get_or s j 0 ≡ 41 → ⊥) → (get_or s j 0 ≡ 44 → ⊥) → Names s at (record { from = j; to = j + 1 + n })
  name_of x y z =
      let d : j + 1 + n - j ≡ suc n = omega arith in
      let e : j + 1 + n - (j + 1) ≡ n = omega arith in
      record {
        past = passed;
        some_bytes = omega arith;
        within = token_fits;
        first = rw d token_first;
        no_mark = rw (d, token_bytes) (other_name (get_or s j 0) (take n (drop (j + 1) s)) x y z);
        rest = rw e rest;
      }

  means_token : Dec (get_or s j 0 ≡ 40) → Dec (get_or s j 0 ≡ 41) → Dec (get_or s j 0 ≡ 44) → Means s at (Some (symbol_with (get_or s j 0) j (j + 1 + n)))
  unfolding rest_length variable_rest plain_rest alphabetic digit
  means_token (yes x) y z = rw (eq-eqb _ _ x) (mark_of 40 x refl)
  means_token (no x) (yes y) z = rw (ne_eqb _ _ x, eq-eqb _ _ y) (mark_of 41 y refl)
  means_token (no x) (no y) (yes z) = rw (ne_eqb _ _ x, ne_eqb _ _ y, eq-eqb _ _ z) (mark_of 44 z refl)
  means_token (no x) (no y) (no z) = rw (ne_eqb _ _ x, ne_eqb _ _ y, ne_eqb _ _ z) (name_of x y z)

means_by : (s : Text) (at j : ℕ) → j ≡ start_at s at → (t : Bool) (o : Option ℕ) → ltb j (length s) ≡ t → rest_length (get_or s j 0) (drop (j + 1) s) ≡ o
    → Means s at (cond t (symbol_from s j (end_of (j + 1) o)) (Some Stop))
means_by s at j is true (Some n) h g =
    means_token s at j n is (ltb-true j (length s) h) g (ℕ_discrete (get_or s j 0) 40) (ℕ_discrete (get_or s j 0) 41) (ℕ_discrete (get_or s j 0) 44)
means_by s at j is true None h g =
    tokens_there s at j is (ltb-true j (length s) h)
    ∙ ap (λ (o : Option ℕ). o >>= λ n. joined (get_or s j 0 ∷ take n (drop (j + 1) s)) (tokens_after n (drop (j + 1) s))) g
means_by s at j is false o h g = tokens_at s at j is ∙ rw (drop_of_length-le s (ltb-false j (length s) h))

-- what the next symbol says of the tokens
pub means : (s : Text) (at : ℕ) → Means s at (next_symbol s at)
unfolding next_symbol
means s at = means_by s at (start_at s at) refl (ltb (start_at s at) (length s)) (rest_length (get_or s (start_at s at) 0) (drop (start_at s at + 1) s)) refl refl

-- the same of a symbol r that was read and is q
pub means_is : (s : Text) (at : ℕ) {r : Option Symbol} → r ≡ next_symbol s at → (q : Option Symbol) → r ≡ q → Means s at q
means_is s at e q f = subst (Means s at) (sym e ∙ f) (means s at)
