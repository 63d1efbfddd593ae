-- A measure of trees that the bytes of the text bound: what a token may measure is at most what its bytes measure, and what is read
-- of tokens at most what they measure.
use Prim.Native.Nat.{ℕ, zero, suc, ◌+◌, ◌≤◌}
use native.Mathlib.Omega.{arith}
use mathlib.Core.Path.{◌≡◌, refl, ap, subst}
use mathlib.Core.List.{List, [], ◌∷◌}
use Rattle.std.specs.Prelude.{Option, Some, None}
use Rattle.laws.proofs.Basics.Somes.{some_injective, none_ne_some}
use mathlib.Core.Bool.{Bool, true, false, cond, not}
use lib.Dec.{eqb, leb}
use lib.ListN.{length, take}
use Rattle.rules.specs.Bytes.{Text, same}
use Rattle.rules.specs.Text.{bytes}
use Rattle.rules.specs.Maybe.{◌>>=◌, guard}
use Rattle.rules.specs.Tree.{Tree, Trees, none, more, size}
use Rattle.rules.specs.Tokens.{rest_length, tokens_after, tokens}
use Rattle.rules.specs.Reading.{leaf, close, after_token, wholly, read_term, read_list, read_text, parse}
use Rattle.laws.proofs.Basics.Tests.{same_eq}
use Rattle.laws.proofs.Basics.Options.{bound}
use Rattle.laws.proofs.Reading.TokenKinds.{is_mark}

module _ {A : Type 0} (f : A → ℕ) where
  -- the sum over a list
  unfoldable pub total : List A → ℕ
  total [] = 0
  total (a ∷ l) = f a + total l

-- a byte's and a token's measure, that of a comma or a closing bracket, and that of a tree and of a list, in which each tree has such
-- a delimiter after it
pub record Measure : Type 0 where
  pub byte : ℕ → ℕ
  pub token : Text → ℕ
  pub delimiter : ℕ
  pub tree : Tree → ℕ
  pub trees : Trees → ℕ
  pub token_bytes : (b : ℕ) (n : Text) → token (b ∷ n) ≤ total byte (b ∷ n)
  pub comma_token : delimiter ≤ token (bytes ",")
  pub bracket_token : delimiter ≤ token (bytes ")")
  pub leaf_token : (n : Text) → tree (leaf n) ≤ token n
  pub no_trees : trees none ≡ 0
  pub more_trees : (t : Tree) (ts : Trees) → trees (more t ts) ≡ tree t + delimiter + trees ts
  pub closed : (n : Text) (ts : Trees) (t : Tree) → close n ts ≡ Some t → tree t ≤ token n + token (bytes "(") + trees ts

abbrev Term : Type 0
Term = Tree × List Text

abbrev Listed : Type 0
Listed = Trees × List Text

module _ (m : Measure) where
  abbrev tokens_total : List Text → ℕ
  tokens_total = total m.token

  -- Tokens

  token_measured : (k : ℕ) (s : Text) (ts : List Text) → tokens_after k s ≡ Some ts → tokens_total ts + total m.byte (take k s) ≤ total m.byte s
  unfolding tokens_after total
  token_measured k [] ts h = subst (λ (us : List Text). tokens_total us + total m.byte (take k []) ≤ 0) (some_injective [] ts h) (nothing_taken k)
    where
      nothing_taken : (j : ℕ) → 0 + total m.byte (take j []) ≤ 0
      nothing_taken zero = omega arith
      nothing_taken (suc j) = omega arith
  token_measured (suc k) (b ∷ s) ts h = let i = token_measured k s ts h in omega arith
  token_measured zero (b ∷ s) ts h = go (eqb b 32) h (λ k us e. token_measured k s us e)
    where
      go : (x : Bool) → elim x [ true ↦ tokens_after 0 s | false ↦ rest_length b s >>= λ n. tokens_after n s >>= λ us. Some ((b ∷ take n s) ∷ us) ] ≡ Some ts
          → ((k : ℕ) (us : List Text) → tokens_after k s ≡ Some us → tokens_total us + total m.byte (take k s) ≤ total m.byte s)
          → tokens_total ts + 0 ≤ m.byte b + total m.byte s
      go true k ih = let i = ih 0 ts k in omega arith
      go false k ih =
          let (n, e, h₁) = bound (rest_length b s) _ ts k in
          let (us, f, h₂) = bound (tokens_after n s) (λ vs. Some ((b ∷ take n s) ∷ vs)) ts h₁ in
          let i = ih n us f in
          let j = m.token_bytes b (take n s) in
          let g = ap tokens_total (some_injective ((b ∷ take n s) ∷ us) ts h₂) in
          omega arith

  pub tokens_measured : (s : Text) (ts : List Text) → tokens s ≡ Some ts → tokens_total ts ≤ total m.byte s
  unfolding tokens total
  tokens_measured s ts h = let i = token_measured 0 s ts h in omega arith

  -- Terms

  abbrev Fits : List Text → Term → Type 0
  Fits ts p = m.tree p.0 + tokens_total p.1 ≤ tokens_total ts

  abbrev FitsList : List Text → Listed → Type 0
  FitsList ts q = m.trees q.0 + tokens_total q.1 ≤ tokens_total ts

  next_token : (s : Text) (ts us : List Text) → after_token s ts ≡ Some us → m.token s + tokens_total us ≡ tokens_total ts
  unfolding after_token total
  next_token s [] us h = absurd (none_ne_some us h)
  next_token s (t ∷ ts) us h = go (same s t) refl h
    where
      go : (x : Bool) → same s t ≡ x → cond x (Some ts) None ≡ Some us → m.token s + tokens_total us ≡ m.token t + tokens_total ts
      go true e k = rw (same_eq s t e, some_injective ts us k) refl
      go false e k = absurd (none_ne_some us k)

  named : (n : Text) (ts : List Text) (p : Term) (go : List Text → Option Listed) → ((us : List Text) (q : Listed) → go us ≡ Some q → FitsList us q)
      → (o : Option (List Text)) → after_token (bytes "(") ts ≡ o
      → elim o [ None ↦ Some (leaf n, ts) | Some us ↦ go us >>= λ q. close n q.0 >>= λ t. Some (t, q.1) ] ≡ Some p → Fits (n ∷ ts) p
  unfolding total
  named n ts p go ih None e h =
      let i = m.leaf_token n in
      subst (λ (r : Term). Fits (n ∷ ts) r) (some_injective (leaf n, ts) p h) (omega arith)
  named n ts p go ih (Some us) e h =
      let (q, f, h₁) = bound (go us) (λ r. close n r.0 >>= λ t. Some (t, r.1)) p h in
      let (t, g, h₂) = bound (close n q.0) (λ t. Some (t, q.1)) p h₁ in
      let i = ih us q f in
      let j = m.closed n q.0 t g in
      let k = next_token (bytes "(") ts us e in
      subst (λ (r : Term). Fits (n ∷ ts) r) (some_injective (t, q.1) p h₂) (omega arith)

  listing : (ts : List Text) (p : Term) (q : Listed) (go : List Text → Option Listed) → ((us : List Text) (r : Listed) → go us ≡ Some r → FitsList us r)
      → Fits ts p → (o : Option (List Text)) → after_token (bytes ",") p.1 ≡ o
      → elim o [ Some vs ↦ go vs >>= λ r. Some (more p.0 r.0, r.1) | None ↦ after_token (bytes ")") p.1 >>= λ vs. Some (more p.0 none, vs) ] ≡ Some q
      → FitsList ts q
  listing ts p q go ih a None e h =
      let (vs, f, h₁) = bound (after_token (bytes ")") p.1) (λ us. Some (more p.0 none, us)) q h in
      let i = next_token (bytes ")") p.1 vs f in
      let j = m.bracket_token in
      let k = m.more_trees p.0 none in
      let l = m.no_trees in
      subst (λ (r : Listed). FitsList ts r) (some_injective (more p.0 none, vs) q h₁) (omega arith)
  listing ts p q go ih a (Some vs) e h =
      let (r, f, h₁) = bound (go vs) (λ s. Some (more p.0 s.0, s.1)) q h in
      let i = next_token (bytes ",") p.1 vs e in
      let j = m.comma_token in
      let k = m.more_trees p.0 r.0 in
      let l = ih vs r f in
      subst (λ (s : Listed). FitsList ts s) (some_injective (more p.0 r.0, r.1) q h₁) (omega arith)

  mutual
    unfolding read_term

    term_measured : (k : ℕ) (ts : List Text) (p : Term) → read_term close k ts ≡ Some p → Fits ts p
    term_measured zero ts p h = absurd (none_ne_some p h)
    term_measured (suc k) [] p h = absurd (none_ne_some p h)
    term_measured (suc k) (n ∷ ts) p h =
        let (x, g, h₁) = bound (guard (not (is_mark n))) _ p h in
        named n ts p (read_list close k) (λ us q e. list_measured k us q e) (after_token (bytes "(") ts) refl h₁

    list_measured : (k : ℕ) (ts : List Text) (q : Listed) → read_list close k ts ≡ Some q → FitsList ts q
    list_measured zero ts q h = absurd (none_ne_some q h)
    list_measured (suc k) ts q h =
        let (p, e, h₁) = bound (read_term close k ts) _ q h in
        listing ts p q (read_list close k) (λ us r f. list_measured k us r f) (term_measured k ts p e) (after_token (bytes ",") p.1) refl h₁

  whole_measured : (o : Option Term) (ts : List Text) (t : Tree) → ((p : Term) → o ≡ Some p → Fits ts p) → wholly o ≡ Some t → m.tree t ≤ tokens_total ts
  unfolding total
  whole_measured None ts t f h = absurd (none_ne_some t h)
  whole_measured (Some (v, [])) ts t f h = let i = f (v, []) refl in let e = ap m.tree (some_injective v t h) in omega arith
  whole_measured (Some (v, x ∷ r)) ts t f h = absurd (none_ne_some t h)

  -- a tree measures at most what its text does
  pub read_measured : (s : Text) (t : Tree) → parse s ≡ Some t → m.tree t ≤ total m.byte s
  unfolding parse read_text
  read_measured s t h =
      let (v, e, h₁) = bound (read_text close s) _ t h in
      let (x, g, h₂) = bound (guard (leb (size v) 4096)) (λ _. Some v) t h₁ in
      let (ts, f, k) = bound (tokens s) (λ us. wholly (read_term close (length us) us)) v e in
      let i = whole_measured (read_term close (length ts) ts) ts v (λ p l. term_measured (length ts) ts p l) k in
      let j = tokens_measured s ts f in
      let l = ap m.tree (some_injective v t h₂) in
      omega arith
