-- Every name of a tree that is read stands in its text.
use Prim.Native.Nat.{ℕ, zero, suc, ◌≤◌}
use native.Mathlib.Omega.{arith}
use mathlib.Core.Path.{◌≡◌, refl, sym, ◌∙◌, ap, subst}
use mathlib.Core.List.{List, [], ◌∷◌, ◌++◌, append_assoc}
use Rattle.std.specs.Prelude.{Option, Some, None}
use Rattle.laws.proofs.Basics.Somes.{some_injective, none_ne_some}
use mathlib.Core.Bool.{Bool, true, false, cond, not}
use lib.Dec.{eqb, leb}
use lib.ListN.{length, take, drop, length-append, take-append-drop}
use lib.Seq.{take-append_seam, drop-append_seam, take-length}
use Rattle.rules.specs.Bytes.{Text, same}
use Rattle.rules.specs.Text.{bytes, count_of}
use Rattle.rules.specs.Maybe.{◌>>=◌, guard}
use Rattle.rules.specs.Tree.{Tree, variable, atom, apply, Trees, none, more, size, tamtplus, variable_names, variable_names_in}
use Rattle.rules.specs.Tokens.{rest_length, tokens_after, tokens}
use Rattle.rules.specs.Reading.{leaf, nested, close, after_token, wholly, read_term, read_list, read_text, parse}
use Rattle.laws.specs.Parts.{PartOf}
use Rattle.laws.proofs.Basics.Options.{bound}
use Rattle.laws.proofs.Reading.TokenKinds.{is_mark}
use Rattle.laws.proofs.Reading.Colons.{closed_cases}
use Rattle.laws.proofs.Variants.Targets.{All, all_append}

-- Parts

pub part_self : (s : Text) → PartOf s s
part_self s = (0, length s, take-length s)

-- of a text with one byte more in front
pub part_later : (b : ℕ) (s x : Text) → PartOf s x → PartOf (b ∷ s) x
part_later b s x (a, n, e) = (suc a, n, e)

-- a part between two others
abbrev Between : Text → Text → Type 0
Between s x = (p : Text) × (q : Text) × (s ≡ p ++ (x ++ q))

part_between : (s x : Text) → PartOf s x → Between s x
part_between s x (a, n, e) = (
  take a s,
  drop n (drop a s),
  sym (take-append-drop a s) ∙ ap (λ (r : Text). take a s ++ r) (sym (take-append-drop n (drop a s)) ∙ ap (λ (y : Text). y ++ drop n (drop a s)) e),
)

between_part : (s x : Text) → Between s x → PartOf s x
between_part s x (p, q, e) =
    (length p, length x, ap (λ (r : Text). take (length x) (drop (length p) r)) e ∙ ap (take (length x)) (drop-append_seam p (x ++ q)) ∙ take-append_seam x q)

-- a part of a part
pub part_of_part : (s t x : Text) → PartOf s t → PartOf t x → PartOf s x
part_of_part s t x h k =
    let (p, q, e) = part_between s t h in
    let (u, v, f) = part_between t x k in
    between_part s x (
      p ++ u,
      v ++ q,
      e ∙ ap (λ (y : Text). p ++ (y ++ q)) f ∙ ap (λ (y : Text). p ++ y) (append_assoc u (x ++ v) q ∙ ap (λ (y : Text). u ++ y) (append_assoc x v q))
          ∙ sym (append_assoc p u (x ++ (v ++ q))),
    )

pub part_length : (s x : Text) → PartOf s x → length x ≤ length s
part_length s x h =
    let (p, q, e) = part_between s x h in
    let k = ap length e in
    omega (arith, length-append p (x ++ q), length-append x q)

-- Names of a tree

-- each variable's name, and each application's
abbrev mutual
  pub Named : (Text → Type 0) → (Text → Type 0) → Tree → Type 0
  Named P Q (variable x) = P x
  Named P Q (atom c d) = Unit {0}
  Named P Q (apply f ts) = Q f × NamedIn P Q ts

  pub NamedIn : (Text → Type 0) → (Text → Type 0) → Trees → Type 0
  NamedIn P Q none = Unit {0}
  NamedIn P Q (more t ts) = Named P Q t × NamedIn P Q ts

abbrev pub AllNames : (Text → Type 0) → Tree → Type 0
AllNames P t = Named P P t

-- the names of the applications
abbrev pub AllHeads : (Text → Type 0) → Tree → Type 0
AllHeads P t = Named (λ x. Unit {0}) P t

module _ (P P₂ Q Q₂ : Text → Type 0) (p : (x : Text) → P x → P₂ x) (q : (x : Text) → Q x → Q₂ x) where
  mutual
    pub named_map : (t : Tree) → Named P Q t → Named P₂ Q₂ t
    named_map (variable x) h = p x h
    named_map (atom c d) h = tt
    named_map (apply g ts) h = (q g h.0, named_in_map ts h.1)

    named_in_map : (ts : Trees) → NamedIn P Q ts → NamedIn P₂ Q₂ ts
    named_in_map none h = tt
    named_in_map (more t ts) h = (named_map t h.0, named_in_map ts h.1)

module _ (P Q : Text → Type 0) where
  mutual
    unfolding variable_names

    -- the variables' names in a list
    pub names_listed : (t : Tree) → Named P Q t → All P (variable_names t)
    names_listed (variable x) h = (h, tt)
    names_listed (atom c d) h = tt
    names_listed (apply f ts) h = names_in_listed ts h.1

    names_in_listed : (ts : Trees) → NamedIn P Q ts → All P (variable_names_in ts)
    names_in_listed none h = tt
    names_in_listed (more t ts) h = all_append P (variable_names t) (variable_names_in ts) (names_listed t h.0) (names_in_listed ts h.1)

-- Reading

abbrev Term : Type 0
Term = Tree × List Text

abbrev Listed : Type 0
Listed = Trees × List Text

module _ (P : Text → Type 0) where
  -- names with the property make trees whose names have it
  leaf_named : (n : Text) → P n → AllNames P (leaf n)
  unfolding leaf
  leaf_named n p = go (eqb (count_of 58 n) 0)
    where
      go : (b : Bool) → AllNames P (cond b (apply n none) (variable n))
      go true = (p, tt)
      go false = p

  nested_named : P tamtplus → (t : Tree) (us : Trees) → AllNames P t → NamedIn P P us → AllNames P (nested t us)
  unfolding nested
  nested_named p t none h k = h
  nested_named p t (more u us) h k = (p, (h, (nested_named p u us k.0 k.1, tt)))

  close_named : (n : Text) (ts : Trees) (t : Tree) → close n ts ≡ Some t → P n → NamedIn P P ts → AllNames P t
  close_named =
      closed_cases (λ n ts t. P n → NamedIn P P ts → AllNames P t) (λ n ts c d p h. tt)
      (λ n t u us e p h. nested_named (subst P e p) t (more u us) h.0 h.1) (λ n ts p h. (p, h))

  abbrev NamedTerm : Term → Type 0
  NamedTerm p = AllNames P p.0 × All P p.1

  abbrev NamedList : Listed → Type 0
  NamedList q = NamedIn P P q.0 × All P q.1

  next_named : (s : Text) (ts us : List Text) → after_token s ts ≡ Some us → All P ts → All P us
  unfolding after_token
  next_named s [] us h k = absurd (none_ne_some us h)
  next_named s (t ∷ ts) us h k = go (same s t) h
    where
      go : (x : Bool) → cond x (Some ts) None ≡ Some us → All P us
      go true e = subst (All P) (some_injective ts us e) k.1
      go false e = absurd (none_ne_some us e)

  named : (n : Text) (ts : List Text) (p : Term) (go : List Text → Option Listed) → ((us : List Text) (q : Listed) → go us ≡ Some q → All P us → NamedList q)
      → P n → All P ts → (o : Option (List Text)) → after_token (bytes "(") ts ≡ o
      → elim o [ None ↦ Some (leaf n, ts) | Some us ↦ go us >>= λ q. close n q.0 >>= λ t. Some (t, q.1) ] ≡ Some p → NamedTerm p
  named n ts p go ih a b None e h = subst NamedTerm (some_injective (leaf n, ts) p h) (leaf_named n a, b)
  named n ts p go ih a b (Some us) e h =
      let (q, f, h₁) = bound (go us) (λ r. close n r.0 >>= λ t. Some (t, r.1)) p h in
      let (t, g, h₂) = bound (close n q.0) (λ t. Some (t, q.1)) p h₁ in
      let k = ih us q f (next_named (bytes "(") ts us e b) in
      subst NamedTerm (some_injective (t, q.1) p h₂) (close_named n q.0 t g a k.0, k.1)

  listed : (p : Term) (q : Listed) (go : List Text → Option Listed) → ((us : List Text) (r : Listed) → go us ≡ Some r → All P us → NamedList r)
      → NamedTerm p → (o : Option (List Text)) → after_token (bytes ",") p.1 ≡ o
      → elim o [ Some vs ↦ go vs >>= λ r. Some (more p.0 r.0, r.1) | None ↦ after_token (bytes ")") p.1 >>= λ vs. Some (more p.0 none, vs) ] ≡ Some q
      → NamedList q
  listed p q go ih a None e h =
      let (vs, f, h₁) = bound (after_token (bytes ")") p.1) (λ us. Some (more p.0 none, us)) q h in
      subst NamedList (some_injective (more p.0 none, vs) q h₁) ((a.0, tt), next_named (bytes ")") p.1 vs f a.1)
  listed p q go ih a (Some vs) e h =
      let (r, f, h₁) = bound (go vs) (λ s. Some (more p.0 s.0, s.1)) q h in
      let k = ih vs r f (next_named (bytes ",") p.1 vs e a.1) in
      subst NamedList (some_injective (more p.0 r.0, r.1) q h₁) ((a.0, k.0), k.1)

  mutual
    unfolding read_term

    term_named : (k : ℕ) (ts : List Text) (p : Term) → read_term close k ts ≡ Some p → All P ts → NamedTerm p
    term_named zero ts p h a = absurd (none_ne_some p h)
    term_named (suc k) [] p h a = absurd (none_ne_some p h)
    term_named (suc k) (n ∷ ts) p h a =
        let (x, g, h₁) = bound (guard (not (is_mark n))) _ p h in
        named n ts p (read_list close k) (λ us q e b. list_named k us q e b) a.0 a.1 (after_token (bytes "(") ts) refl h₁

    list_named : (k : ℕ) (ts : List Text) (q : Listed) → read_list close k ts ≡ Some q → All P ts → NamedList q
    list_named zero ts q h a = absurd (none_ne_some q h)
    list_named (suc k) ts q h a =
        let (p, e, h₁) = bound (read_term close k ts) _ q h in
        listed p q (read_list close k) (λ us r f b. list_named k us r f b) (term_named k ts p e a) (after_token (bytes ",") p.1) refl h₁

  whole_named : (o : Option Term) (t : Tree) → ((p : Term) → o ≡ Some p → NamedTerm p) → wholly o ≡ Some t → AllNames P t
  whole_named None t f h = absurd (none_ne_some t h)
  whole_named (Some (v, [])) t f h = subst (AllNames P) (some_injective v t h) (f (v, []) refl).0
  whole_named (Some (v, x ∷ r)) t f h = absurd (none_ne_some t h)

  tokens_named : (s : Text) (t : Tree) → parse s ≡ Some t → ((ts : List Text) → tokens s ≡ Some ts → All P ts) → AllNames P t
  unfolding parse read_text
  tokens_named s t h a =
      let (v, e, h₁) = bound (read_text close s) _ t h in
      let (x, g, h₂) = bound (guard (leb (size v) 4096)) (λ _. Some v) t h₁ in
      let (ts, f, k) = bound (tokens s) (λ us. wholly (read_term close (length us) us)) v e in
      subst (AllNames P) (some_injective v t h₂)
      (whole_named (read_term close (length ts) ts) v (λ p l. term_named (length ts) ts p l (a ts f)) k)

-- Tokens

pub later_parts : (b : ℕ) (s : Text) (ts : List Text) → All (PartOf s) ts → All (PartOf (b ∷ s)) ts
later_parts b s [] h = tt
later_parts b s (t ∷ ts) h = (part_later b s t h.0, later_parts b s ts h.1)

token_parts : (k : ℕ) (s : Text) (ts : List Text) → tokens_after k s ≡ Some ts → All (PartOf s) ts
unfolding tokens_after
token_parts k [] ts h = subst (All (PartOf [])) (some_injective [] ts h) tt
token_parts (suc k) (b ∷ s) ts h = later_parts b s ts (token_parts k s ts h)
token_parts zero (b ∷ s) ts h = go (eqb b 32) h (λ k us e. token_parts k s us e)
  where
    go : (x : Bool) → elim x [ true ↦ tokens_after 0 s | false ↦ rest_length b s >>= λ n. tokens_after n s >>= λ us. Some ((b ∷ take n s) ∷ us) ] ≡ Some ts
        → ((k : ℕ) (us : List Text) → tokens_after k s ≡ Some us → All (PartOf s) us) → All (PartOf (b ∷ s)) ts
    go true k ih = later_parts b s ts (ih 0 ts k)
    go false k ih =
        let (n, e, h₁) = bound (rest_length b s) _ ts k in
        let (us, f, h₂) = bound (tokens_after n s) (λ vs. Some ((b ∷ take n s) ∷ vs)) ts h₁ in
        subst (All (PartOf (b ∷ s))) (some_injective ((b ∷ take n s) ∷ us) ts h₂) ((0, suc n, refl), later_parts b s us (ih n us f))

-- each name of the tree is a part of the text
pub parse_spelled : (s : Text) (t : Tree) → parse s ≡ Some t → AllNames (PartOf s) t
unfolding tokens
parse_spelled s t h = tokens_named (PartOf s) s t h (λ ts e. token_parts 0 s ts e)

-- and of each text that the text is a part of
pub part_spelled : (s x : Text) (t : Tree) → PartOf s x → parse x ≡ Some t → AllNames (PartOf s) t
part_spelled s x t p h =
    named_map (PartOf x) (PartOf s) (PartOf x) (PartOf s) (λ y k. part_of_part s x y p k) (λ y k. part_of_part s x y p k) t (parse_spelled x t h)
