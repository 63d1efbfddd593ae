-- `equal` reads a text as a tree exactly where the text has the tokens of the tree's own text.
use Prim.Native.Nat.{ℕ, zero, suc}
use mathlib.Core.Path.{◌≡◌, refl, sym, ◌∙◌, ap, subst}
use mathlib.Core.List.{List, [], ◌∷◌}
use mathlib.Core.Logic.{◌↔◌}
use Rattle.std.specs.Prelude.{Option, Some, None}
use Rattle.laws.proofs.Basics.Somes.{some_injective, none_ne_some}
use mathlib.Core.Bool.{Bool, true, false, cond, not}
use lib.Dec.{eqb}
use lib.ListN.{length}
use Rattle.rules.specs.Bytes.{Text, same}
use Rattle.rules.specs.Text.{bytes, count_of}
use Rattle.rules.specs.Maybe.{◌>>=◌, guard}
use Rattle.rules.specs.Tree.{Tree, variable, apply, Trees, none, more}
use Rattle.rules.specs.Writing.{render}
use Rattle.rules.specs.Grouping.{read_written, Written}
use Rattle.rules.specs.Tokens.{tokens}
use Rattle.rules.specs.Reading.{leaf, as_written, after_token, wholly, read_term, read_list, read_text}
use Rattle.laws.proofs.Basics.Options.{bound}
use Rattle.laws.proofs.Basics.Tests.{same_eq}
use Rattle.laws.proofs.Reading.TokenKinds.{is_mark}
use Rattle.laws.proofs.Reading.Rereading.{tree_tokens, rest_tokens}
use Rattle.laws.proofs.Reading.RoundTrip.{tokens_written}
use Rattle.laws.proofs.Reading.Closes.{writes}
use Rattle.laws.proofs.Reading.Written.{lexes, written_reread}

abbrev Term : Type 0
Term = Tree × List Text

abbrev Listed : Type 0
Listed = Trees × List Text

token_front : (s : Text) (ts us : List Text) → after_token s ts ≡ Some us → ts ≡ s ∷ us
unfolding after_token
token_front s [] us h = absurd (none_ne_some us h)
token_front s (t ∷ ts) us h = go (same s t) refl h
  where
    go : (b : Bool) → same s t ≡ b → cond b (Some ts) None ≡ Some us → t ∷ ts ≡ s ∷ us
    go true e k = let p = same_eq s t e in let q = some_injective ts us k in cc
    go false e k = absurd (none_ne_some us k)

leaf_tokens : (n : Text) (r : List Text) → n ∷ r ≡ tree_tokens (leaf n) r
unfolding leaf
leaf_tokens n r = go (eqb (count_of 58 n) 0)
  where
    go : (b : Bool) → n ∷ r ≡ tree_tokens (cond b (apply n none) (variable n)) r
    go true = refl
    go false = refl

-- the tokens of a list after its bracket
abbrev Inner : Trees → List Text → List Text → Type 0
Inner none us r = ⊥
Inner (more t ts) us r = us ≡ tree_tokens t (rest_tokens ts r)

inner_list : (n : Text) (ts : Trees) (us r : List Text) → Inner ts us r → n ∷ bytes "(" ∷ us ≡ tree_tokens (apply n ts) r
inner_list n none us r h = absurd h
inner_list n (more t ts) us r h = ap (λ (l : List Text). n ∷ bytes "(" ∷ l) h

inner_rest : (ts : Trees) (us r : List Text) → Inner ts us r → bytes "," ∷ us ≡ rest_tokens ts r
inner_rest none us r h = absurd h
inner_rest (more t ts) us r h = ap (λ (l : List Text). bytes "," ∷ l) h

named : (n : Text) (ts : List Text) (p : Term) (o : Option (List Text)) → after_token (bytes "(") ts ≡ o → (go : List Text → Option Listed)
    → ((us : List Text) (q : Listed) → go us ≡ Some q → Inner q.0 us q.1)
    → elim o [ None ↦ Some (leaf n, ts) | Some us ↦ go us >>= λ q. as_written n q.0 >>= λ t. Some (t, q.1) ] ≡ Some p
    → n ∷ ts ≡ tree_tokens p.0 p.1
named n ts p None e go ih h = leaf_tokens n ts ∙ ap (λ (q : Term). tree_tokens q.0 q.1) (some_injective (leaf n, ts) p h)
named n ts p (Some us) e go ih h =
    let (q, f, h₁) = bound (go us) (λ q. Some (apply n q.0, q.1)) p h in
    ap (λ (l : List Text). n ∷ l) (token_front (bytes "(") ts us e) ∙ inner_list n q.0 us q.1 (ih us q f)
    ∙ ap (λ (z : Term). tree_tokens z.0 z.1) (some_injective (apply n q.0, q.1) p h₁)

listing : (ts : List Text) (p : Term) (q : Listed) → ts ≡ tree_tokens p.0 p.1 → (o : Option (List Text)) → after_token (bytes ",") p.1 ≡ o
    → (go : List Text → Option Listed) → ((us : List Text) (r : Listed) → go us ≡ Some r → Inner r.0 us r.1)
    → elim o [ Some vs ↦ go vs >>= λ r. Some (more p.0 r.0, r.1) | None ↦ after_token (bytes ")") p.1 >>= λ vs. Some (more p.0 none, vs) ] ≡ Some q
    → Inner q.0 ts q.1
listing ts p q b None e go ih h =
    let (vs, f, h₁) = bound (after_token (bytes ")") p.1) (λ us. Some (more p.0 none, us)) q h in
    subst (λ (z : Listed). Inner z.0 ts z.1) (some_injective (more p.0 none, vs) q h₁)
    (b ∙ ap (tree_tokens p.0) (token_front (bytes ")") p.1 vs f))
listing ts p q b (Some vs) e go ih h =
    let (r, f, h₁) = bound (go vs) (λ r. Some (more p.0 r.0, r.1)) q h in
    subst (λ (z : Listed). Inner z.0 ts z.1) (some_injective (more p.0 r.0, r.1) q h₁)
    (b ∙ ap (tree_tokens p.0) (token_front (bytes ",") p.1 vs e ∙ inner_rest r.0 vs r.1 (ih vs r f)))

mutual
  unfolding read_term

  term_tokens : (k : ℕ) (ts : List Text) (p : Term) → read_term as_written k ts ≡ Some p → ts ≡ tree_tokens p.0 p.1
  term_tokens zero ts p h = absurd (none_ne_some p h)
  term_tokens (suc k) [] p h = absurd (none_ne_some p h)
  term_tokens (suc k) (n ∷ ts) p h =
      let (x, g, h₁) = bound (guard (not (is_mark n))) _ p h in
      named n ts p (after_token (bytes "(") ts) refl (read_list as_written k) (λ us q f. inner_tokens k us q f) h₁

  inner_tokens : (k : ℕ) (ts : List Text) (q : Listed) → read_list as_written k ts ≡ Some q → Inner q.0 ts q.1
  inner_tokens zero ts q h = absurd (none_ne_some q h)
  inner_tokens (suc k) ts q h =
      let (p, e, h₁) = bound (read_term as_written k ts) _ q h in
      listing ts p q (term_tokens k ts p e) (after_token (bytes ",") p.1) refl (read_list as_written k) (λ us r f. inner_tokens k us r f) h₁

whole_tokens : (ts : List Text) (o : Option Term) (t : Tree) → ((p : Term) → o ≡ Some p → ts ≡ tree_tokens p.0 p.1) → wholly o ≡ Some t → ts ≡ tree_tokens t []
whole_tokens ts None t f h = absurd (none_ne_some t h)
whole_tokens ts (Some (v, [])) t f h = f (v, []) refl ∙ ap (λ (u : Tree). tree_tokens u []) (some_injective v t h)
whole_tokens ts (Some (v, x ∷ r)) t f h = absurd (none_ne_some t h)

read_tokens : (s : Text) (t : Tree) → read_written s ≡ Some t → tokens s ≡ Some (tree_tokens t [])
unfolding read_written read_text
read_tokens s t h =
    let (ts, e, h₁) = bound (tokens s) (λ us. wholly (read_term as_written (length us) us)) t h in
    e ∙ ap Some (whole_tokens ts (read_term as_written (length ts) ts) t (λ p f. term_tokens (length ts) ts p f) h₁)

-- texts of the same tokens read alike
tokens_read : (s r : Text) → tokens s ≡ tokens r → read_written s ≡ read_written r
unfolding read_written read_text
tokens_read s r e = ap (λ (o : Option (List Text)). o >>= λ us. wholly (read_term as_written (length us) us)) e

pub one_reading : (s : Text) (t : Tree) → (read_written s ≡ Some t) ↔ (Written t × (tokens s ≡ tokens (render t)))
one_reading s t = (
  λ h. (writes s t h, read_tokens s t h ∙ sym (tokens_written t (lexes (writes s t h)))),
  λ z. tokens_read s (render t) z.1 ∙ written_reread t z.0,
)
