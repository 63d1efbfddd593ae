-- Reading closes, name by name, what is read as it is written.
use Prim.Native.Nat.{ℕ, zero, suc}
use mathlib.Core.Path.{◌≡◌, refl, sym, ap, ◌∙◌}
use mathlib.Core.Bool.{Bool, true, false, not, cond}
use mathlib.Core.List.{List, [], ◌∷◌}
use Rattle.std.specs.Prelude.{Option, Some, None}
use lib.Dec.{eqb}
use lib.ListN.{length}
use Rattle.rules.specs.Bytes.{Text}
use Rattle.rules.specs.Text.{bytes, count_of, is_one_of}
use Rattle.rules.specs.Maybe.{◌>>=◌, guard}
use Rattle.rules.specs.Tree.{Tree, variable, atom, apply, Trees, none, more}
use Rattle.rules.specs.Grouping.{read_written}
use Rattle.rules.specs.Tokens.{tokens}
use Rattle.rules.specs.Reading.{leaf, close, as_written, after_token, wholly, read_term, read_list, read_text}

-- a list is closed when its terms are
abbrev pub closed_list : Text → Trees → Option Trees → Option Tree
closed_list f none o = Some (apply f none)
closed_list f (more t ts) o = o >>= λ us. close f us

unfoldable mutual
  pub closed : Tree → Option Tree
  closed (variable x) = Some (variable x)
  closed (atom c d) = None
  closed (apply f ts) = closed_list f ts (all_closed ts)

  pub all_closed : Trees → Option Trees
  all_closed none = Some none
  all_closed (more t ts) = closed t >>= λ u. all_closed ts >>= λ us. Some (more u us)

abbrev Term : Type 0
Term = Tree × List Text

abbrev Listed : Type 0
Listed = Trees × List Text

abbrev with_rest : {A : Type 0} → List Text → Option A → Option (A × List Text)
with_rest r o = o >>= λ a. Some (a, r)

abbrev close_term : Term → Option Term
close_term p = with_rest p.1 (closed p.0)

abbrev close_terms : Listed → Option Listed
close_terms q = with_rest q.1 (all_closed q.0)

-- a list that is read is not empty
abbrev Filled : Option Listed → Type 0
Filled None = Unit {0}
Filled (Some (none, r)) = ⊥
Filled (Some (more t ts, r)) = Unit {0}

more_filled : (t : Tree) (o : Option Listed) → Filled (o >>= λ q. Some (more t q.0, q.1))
more_filled t None = tt
more_filled t (Some q) = tt

last_filled : (t : Tree) (o : Option (List Text)) → Filled (o >>= λ vs. Some (more t none, vs))
last_filled t None = tt
last_filled t (Some vs) = tt

-- what follows a name, and what follows a term of a list
abbrev named : (Text → Trees → Option Tree) → (List Text → Option Listed) → Text → List Text → Option (List Text) → Option Term
named closing go n ts o = elim o [ None ↦ Some (leaf n, ts) | Some us ↦ go us >>= λ p. closing n p.0 >>= λ t. Some (t, p.1) ]

abbrev listing : (List Text → Option Listed) → Term → Option (List Text) → Option Listed
listing go p o = elim o [ Some vs ↦ go vs >>= λ q. Some (more p.0 q.0, q.1) | None ↦ after_token (bytes ")") p.1 >>= λ vs. Some (more p.0 none, vs) ]

listing_filled : (go : List Text → Option Listed) (p : Term) (o : Option (List Text)) → Filled (listing go p o)
listing_filled go p None = last_filled p.0 (after_token (bytes ")") p.1)
listing_filled go p (Some vs) = more_filled p.0 (go vs)

list_filled : (k : ℕ) (ts : List Text) → Filled (read_list as_written k ts)
unfolding read_term
list_filled zero ts = tt
list_filled (suc k) ts = go (read_term as_written k ts)
  where
    go : (o : Option Term) → Filled (o >>= λ p. listing (read_list as_written k) p (after_token (bytes ",") p.1))
    go None = tt
    go (Some p) = listing_filled (read_list as_written k) p (after_token (bytes ",") p.1)

leaf_closed : (n : Text) → closed (leaf n) ≡ Some (leaf n)
unfolding leaf closed
leaf_closed n = go (eqb (count_of 58 n) 0)
  where
    go : (b : Bool) → closed (cond b (apply n none) (variable n)) ≡ Some (cond b (apply n none) (variable n))
    go true = refl
    go false = refl

-- a name with its list
applied : (n : Text) (o : Option Listed) → Filled o
    → ((o >>= close_terms) >>= λ q. with_rest q.1 (close n q.0)) ≡ ((o >>= λ q. with_rest q.1 (as_written n q.0)) >>= close_term)
unfolding closed
applied n None h = refl
applied n (Some (none, r)) h = absurd h
applied n (Some (more t ts, r)) h = go (closed t >>= λ u. all_closed ts >>= λ us. Some (more u us))
  where
    go : (o : Option Trees) → (with_rest r o >>= λ q. with_rest q.1 (close n q.0)) ≡ with_rest r (o >>= close n)
    go None = refl
    go (Some us) = refl

named_closed : (k : ℕ) (n : Text) (ts : List Text) → ((us : List Text) → read_list close k us ≡ (read_list as_written k us >>= close_terms))
    → (o : Option (List Text)) → named close (read_list close k) n ts o ≡ (named as_written (read_list as_written k) n ts o >>= close_term)
named_closed k n ts ih None = ap (with_rest ts) (sym (leaf_closed n))
named_closed k n ts ih (Some us) =
    ap (λ (o : Option Listed). o >>= λ q. close n q.0 >>= λ t. Some (t, q.1)) (ih us) ∙ applied n (read_list as_written k us) (list_filled k us)

module _ (go go' : List Text → Option Listed) (ih : (us : List Text) → go us ≡ (go' us >>= close_terms)) (t : Tree) (r : List Text) where
  -- a term of a list that does not close
  refused : closed t ≡ None → (o : Option (List Text)) → (listing go' (t, r) o >>= close_terms) ≡ None
  unfolding closed
  refused e None = last (after_token (bytes ")") r)
    where
      last : (o : Option (List Text)) → ((o >>= λ vs. Some (more t none, vs)) >>= close_terms) ≡ None
      last None = refl
      last (Some vs) = rw e
  refused e (Some vs) = rest (go' vs)
    where
      rest : (o : Option Listed) → ((o >>= λ q. Some (more t q.0, q.1)) >>= close_terms) ≡ None
      rest None = refl
      rest (Some q) = rw e

  -- and one that does
  passed : (u : Tree) → closed t ≡ Some u → (o : Option (List Text)) → listing go (u, r) o ≡ (listing go' (t, r) o >>= close_terms)
  unfolding closed
  passed u e None = last (after_token (bytes ")") r)
    where
      last : (o : Option (List Text)) → (o >>= λ vs. Some (more u none, vs)) ≡ ((o >>= λ vs. Some (more t none, vs)) >>= close_terms)
      last None = refl
      last (Some vs) = rw e
  passed u e (Some vs) = ap (λ (o : Option Listed). o >>= λ q. Some (more u q.0, q.1)) (ih vs) ∙ rest (go' vs)
    where
      inner : (ws : List Text) (o : Option Trees)
          → (with_rest ws o >>= λ q. Some (more u q.0, q.1)) ≡ with_rest ws (o >>= λ us. Some (more u us))
      inner ws None = refl
      inner ws (Some us) = refl

      rest : (o : Option Listed) → ((o >>= close_terms) >>= λ q. Some (more u q.0, q.1)) ≡ ((o >>= λ q. Some (more t q.0, q.1)) >>= close_terms)
      rest None = refl
      rest (Some q) = rw e (inner q.1 (all_closed q.0))

  listed : (c : Option Tree) → closed t ≡ c
      → (with_rest r c >>= λ p. listing go p (after_token (bytes ",") p.1)) ≡ (listing go' (t, r) (after_token (bytes ",") r) >>= close_terms)
  listed None e = sym (refused e (after_token (bytes ",") r))
  listed (Some u) e = passed u e (after_token (bytes ",") r)

mutual
  unfolding read_term

  term_closed : (k : ℕ) (ts : List Text) → read_term close k ts ≡ (read_term as_written k ts >>= close_term)
  term_closed zero ts = refl
  term_closed (suc k) [] = refl
  term_closed (suc k) (n ∷ ts) = go (not (is_one_of (bytes "(" ∷ bytes ")" ∷ bytes "," ∷ []) n)) _ (named_closed k n ts (λ us. list_closed k us) (after_token (bytes "(") ts))
    where
      go : (b : Bool) {x : Option Term} (y : Option Term) → x ≡ (y >>= close_term) → (guard b >>= λ _. x) ≡ ((guard b >>= λ _. y) >>= close_term)
      go true y e = e
      go false y e = refl

  list_closed : (k : ℕ) (ts : List Text) → read_list close k ts ≡ (read_list as_written k ts >>= close_terms)
  list_closed zero ts = refl
  list_closed (suc k) ts =
      ap (λ (o : Option Term). o >>= λ p. listing (read_list close k) p (after_token (bytes ",") p.1)) (term_closed k ts)
      ∙ go (λ us. list_closed k us) (read_term as_written k ts)
    where
      go : ((us : List Text) → read_list close k us ≡ (read_list as_written k us >>= close_terms))
          → (o : Option Term) → ((o >>= close_term) >>= λ p. listing (read_list close k) p (after_token (bytes ",") p.1))
          ≡ ((o >>= λ p. listing (read_list as_written k) p (after_token (bytes ",") p.1)) >>= close_terms)
      go ih None = refl
      go ih (Some p) = listed (read_list close k) (read_list as_written k) ih p.0 p.1 (closed p.0) refl

whole_closed : (o : Option Term) → wholly (o >>= close_term) ≡ (wholly o >>= closed)
whole_closed None = refl
whole_closed (Some (w, [])) = go (closed w)
  where
    go : (o : Option Tree) → wholly (with_rest [] o) ≡ o
    go None = refl
    go (Some t) = refl
whole_closed (Some (w, u ∷ us)) = go (closed w)
  where
    go : (o : Option Tree) → wholly (with_rest (u ∷ us) o) ≡ None
    go None = refl
    go (Some t) = refl

pub text_closed : (s : Text) → read_text close s ≡ (read_written s >>= closed)
unfolding read_text read_written
text_closed s = go (tokens s)
  where
    go : (o : Option (List Text)) → (o >>= λ ts. wholly (read_term close (length ts) ts)) ≡ ((o >>= λ ts. wholly (read_term as_written (length ts) ts)) >>= closed)
    go None = refl
    go (Some ts) = ap wholly (term_closed (length ts) ts) ∙ whole_closed (read_term as_written (length ts) ts)
