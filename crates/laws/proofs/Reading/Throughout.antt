-- What holds of every leaf, and of every list that is closed where it holds of its terms, holds of every tree that is read.
use Prim.Native.Nat.{ℕ, zero, suc}
use mathlib.Core.Path.{◌≡◌, refl, subst}
use mathlib.Core.List.{List, [], ◌∷◌}
use Rattle.std.specs.Prelude.{Option, Some, None}
use Rattle.laws.proofs.Basics.Somes.{some_injective, none_ne_some}
use mathlib.Core.Bool.{Bool, true, false, not, cond, ◌||◌, false≢true}
use lib.ListN.{length}
use Rattle.rules.specs.Bytes.{Text, same}
use Rattle.rules.specs.Text.{bytes}
use Rattle.rules.specs.Maybe.{◌>>=◌, guard}
use Rattle.rules.specs.Names.{word, variable_token}
use Rattle.rules.specs.Tree.{Tree, Trees, none, more}
use Rattle.rules.specs.Tokens.{tokens}
use Rattle.rules.specs.Reading.{leaf, after_token, wholly, read_term, read_list, read_text}
use Rattle.laws.proofs.Basics.Options.{bound, guarded}
pub use Rattle.laws.proofs.Equality.Summands.{AllIn}
use Rattle.laws.proofs.Reading.TokenKinds.{is_mark, is_token, Tokens, kinds}

next_tokens : (s : Text) (ts us : List Text) → after_token s ts ≡ Some us → Tokens ts → Tokens us
unfolding after_token
next_tokens s [] us h k = absurd (none_ne_some us h)
next_tokens s (t ∷ ts) us h k = go (same s t) h
  where
    go : (x : Bool) → cond x (Some ts) None ≡ Some us → Tokens us
    go true e = subst Tokens (some_injective ts us e) k.1
    go false e = absurd (none_ne_some us e)

no_mark : (n : Text) → is_token n ≡ true → not (is_mark n) ≡ true → (word n || variable_token n) ≡ true
no_mark n h k = go (is_mark n) h k
  where
    go : (x : Bool) → (x || (word n || variable_token n)) ≡ true → not x ≡ true → (word n || variable_token n) ≡ true
    go true f g = absurd (false≢true g)
    go false f g = f

abbrev Term : Type 0
Term = Tree × List Text

abbrev Listed : Type 0
Listed = Trees × List Text

-- it holds of every tree of a list that is not empty
abbrev NonEmpty : (Tree → Type 0) → Trees → Type 0
NonEmpty P none = ⊥
NonEmpty P (more t ts) = P t × AllIn P ts

module _ (closing : Text → Trees → Option Tree) (P : Tree → Type 0)
    (of_leaf : (n : Text) → (word n || variable_token n) ≡ true → P (leaf n))
    (of_list : (n : Text) (t : Tree) (us : Trees) (v : Tree) → (word n || variable_token n) ≡ true → P t → AllIn P us → closing n (more t us) ≡ Some v → P v) where
  some_all : (ts : Trees) → NonEmpty P ts → AllIn P ts
  some_all none b = absurd b
  some_all (more t ts) b = b

  of_some : (n : Text) (ts : Trees) (v : Tree) → (word n || variable_token n) ≡ true → NonEmpty P ts → closing n ts ≡ Some v → P v
  of_some n none v w b h = absurd b
  of_some n (more t us) v w b h = of_list n t us v w b.0 b.1 h

  named : (n : Text) (ts : List Text) (p : Term) → (word n || variable_token n) ≡ true → Tokens ts
      → (o : Option (List Text)) → after_token (bytes "(") ts ≡ o → (go : List Text → Option Listed)
      → ((us : List Text) (q : Listed) → Tokens us → go us ≡ Some q → NonEmpty P q.0 × Tokens q.1)
      → elim o [ None ↦ Some (leaf n, ts) | Some us ↦ go us >>= λ q. closing n q.0 >>= λ t. Some (t, q.1) ] ≡ Some p
      → P p.0 × Tokens p.1
  named n ts p w a None e go ih h =
      let f = some_injective (leaf n, ts) p h in
      (subst (λ (r : Term). P r.0) f (of_leaf n w), subst (λ (r : Term). Tokens r.1) f a)
  named n ts p w a (Some us) e go ih h =
      let (q, f, h₁) = bound (go us) _ p h in
      let (t, k, h₂) = bound (closing n q.0) (λ u. Some (u, q.1)) p h₁ in
      let (b, c) = ih us q (next_tokens (bytes "(") ts us e a) f in
      let g = some_injective (t, q.1) p h₂ in
      (subst (λ (r : Term). P r.0) g (of_some n q.0 t w b k), subst (λ (r : Term). Tokens r.1) g c)

  listing : (p : Term) (q : Listed) → P p.0 → Tokens p.1
      → (o : Option (List Text)) → after_token (bytes ",") p.1 ≡ o → (go : List Text → Option Listed)
      → ((us : List Text) (r : Listed) → Tokens us → go us ≡ Some r → NonEmpty P r.0 × Tokens r.1)
      → elim o [ Some vs ↦ go vs >>= λ r. Some (more p.0 r.0, r.1) | None ↦ after_token (bytes ")") p.1 >>= λ vs. Some (more p.0 none, vs) ] ≡ Some q
      → NonEmpty P q.0 × Tokens q.1
  listing p q b a None e go ih h =
      let (vs, f, h₁) = bound (after_token (bytes ")") p.1) (λ us. Some (more p.0 none, us)) q h in
      let g = some_injective (more p.0 none, vs) q h₁ in
      (subst (λ (r : Listed). NonEmpty P r.0) g (b, tt), subst (λ (r : Listed). Tokens r.1) g (next_tokens (bytes ")") p.1 vs f a))
  listing p q b a (Some vs) e go ih h =
      let (r, f, h₁) = bound (go vs) (λ s. Some (more p.0 s.0, s.1)) q h in
      let (c, d) = ih vs r (next_tokens (bytes ",") p.1 vs e a) f in
      let g = some_injective (more p.0 r.0, r.1) q h₁ in
      (subst (λ (s : Listed). NonEmpty P s.0) g (b, some_all r.0 c), subst (λ (s : Listed). Tokens s.1) g d)

  mutual
    unfolding read_term

    of_term : (k : ℕ) (ts : List Text) (p : Term) → Tokens ts → read_term closing k ts ≡ Some p → P p.0 × Tokens p.1
    of_term zero ts p a h = absurd (none_ne_some p h)
    of_term (suc k) [] p a h = absurd (none_ne_some p h)
    of_term (suc k) (n ∷ ts) p a h =
        let (x, g, h₁) = bound (guard (not (is_mark n))) _ p h in
        named n ts p (no_mark n a.0 (guarded _ x g)) a.1 (after_token (bytes "(") ts) refl (read_list closing k) (λ us q b e. of_terms k us q b e) h₁

    of_terms : (k : ℕ) (ts : List Text) (q : Listed) → Tokens ts → read_list closing k ts ≡ Some q → NonEmpty P q.0 × Tokens q.1
    of_terms zero ts q a h = absurd (none_ne_some q h)
    of_terms (suc k) ts q a h =
        let (p, e, h₁) = bound (read_term closing k ts) _ q h in
        let (b, c) = of_term k ts p a e in
        listing p q b c (after_token (bytes ",") p.1) refl (read_list closing k) (λ us r d f. of_terms k us r d f) h₁

  of_whole : (o : Option Term) (t : Tree) → ((p : Term) → o ≡ Some p → P p.0) → wholly o ≡ Some t → P t
  of_whole None t f h = absurd (none_ne_some t h)
  of_whole (Some (v, [])) t f h = subst P (some_injective v t h) (f (v, []) refl)
  of_whole (Some (v, x ∷ r)) t f h = absurd (none_ne_some t h)

  pub throughout : (s : Text) (t : Tree) → read_text closing s ≡ Some t → P t
  unfolding read_text
  throughout s t h =
      let (ts, f, k) = bound (tokens s) (λ us. wholly (read_term closing (length us) us)) t h in
      of_whole (read_term closing (length ts) ts) t (λ p l. (of_term (length ts) ts p (kinds s ts f) l).0) k
