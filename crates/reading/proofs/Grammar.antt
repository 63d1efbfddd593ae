-- The machine reads what the grammar reads: from a state that wants a term it goes on with the term that the grammar reads.
use Prim.Native.Nat.{ℕ, zero, suc, ◌≤◌, ◌<◌}
use native.Mathlib.Omega.{arith}
use mathlib.Core.Path.{◌≡◌, refl, ◌∙◌}
use mathlib.Core.List.{List, [], ◌∷◌}
use Rattle.std.specs.Prelude.{Option, Some, None}
use mathlib.Core.Bool.{Bool, true, false, cond, not}
use lib.ListN.{length}
use Rattle.rules.specs.Bytes.{Text, same}
use Rattle.rules.specs.Text.{bytes, is_one_of}
use Rattle.rules.specs.Maybe.{◌>>=◌, guard}
use Rattle.rules.specs.Tree.{Tree, Trees, none, more}
use Rattle.rules.specs.Tokens.{tokens}
use Rattle.rules.specs.Reading.{leaf, close, after_token, wholly, read_term, read_list, read_text}
use Rattle.closing.specs.Machine.{Stack, bottom, level, add, back, wants, named, has, machine_after, machine, machine_reading}

abbrev Term : Type 0
Term = Tree × List Text

abbrev Listed : Type 0
Listed = Trees × List Text

-- What is left after reading is shorter

abbrev Shorter : {A : Type 0} → Option (A × List Text) → List Text → Type 0
Shorter None ts = Unit {0}
Shorter (Some (a, r)) ts = length r < length ts

closed_shorter : (r ts : List Text) (o : Option Tree) → length r < length ts → Shorter (o >>= λ t. Some (t, r)) ts
closed_shorter r ts None h = tt
closed_shorter r ts (Some t) h = h

list_closes_shorter : (n : Text) (o : Option Listed) (us ts : List Text) → length us < length ts → Shorter o us → Shorter (o >>= λ (children, vs). close n children >>= λ t. Some (t, vs)) ts
list_closes_shorter n None us ts h k = tt
list_closes_shorter n (Some (cs, vs)) us ts h k = closed_shorter vs ts (close n cs) (omega arith)

named_shorter : (k : ℕ) (n : Text) → ((us : List Text) → Shorter (read_list close k us) us) → (b : Bool) (ts : List Text)
    → Shorter {A = Tree} (guard b >>= λ _. elim (after_token (bytes "(") ts) [ None ↦ Some (leaf n, ts) | Some us ↦ read_list close k us >>= λ (children, vs). close n children >>= λ t. Some (t, vs) ]) (n ∷ ts)
unfolding after_token
named_shorter k n h false ts = tt
named_shorter k n h true [] = omega arith
named_shorter k n h true (x ∷ us) = go (same (bytes "(") x)
  where
    go : (b : Bool) → Shorter {A = Tree} (elim (cond b (Some us) None) [ None ↦ Some (leaf n, x ∷ us) | Some us ↦ read_list close k us >>= λ (children, vs). close n children >>= λ t. Some (t, vs) ]) (n ∷ x ∷ us)
    go true = list_closes_shorter n (read_list close k us) us (n ∷ x ∷ us) (omega arith) (h us)
    go false = omega arith

more_shorter : (t : Tree) (o : Option Listed) (us ts : List Text) → length us < length ts → Shorter o us → Shorter (o >>= λ (rest, ws). Some (more t rest, ws)) ts
more_shorter t None us ts h k = tt
more_shorter t (Some (rest, ws)) us ts h k = omega arith

-- what a list reads after a term of it
abbrev after_item : (List Text → Option Listed) → Term → Option Listed
after_item f (t, us) = elim (after_token (bytes ",") us) [
  | Some vs ↦ f vs >>= λ (rest, ws). Some (more t rest, ws)
  | None ↦ after_token (bytes ")") us >>= λ vs. Some (more t none, vs)
]

items_shorter : (f : List Text → Option Listed) → ((us : List Text) → Shorter (f us) us) → (o : Option Term) (ts : List Text) → Shorter o ts → Shorter (o >>= after_item f) ts
unfolding after_token
items_shorter f h None ts l = tt
items_shorter f h (Some (t, [])) ts l = tt
items_shorter f h (Some (t, x ∷ us)) ts l = go (same (bytes ",") x) (same (bytes ")") x)
  where
    go : (b c : Bool) → Shorter {A = Trees} (elim (cond b (Some us) None) [
      | Some vs ↦ f vs >>= λ (rest, ws). Some (more t rest, ws)
      | None ↦ cond c (Some us) None >>= λ vs. Some (more t none, vs)
    ]) ts
    go true c = more_shorter t (f us) us ts (omega arith) (h us)
    go false true = omega arith
    go false false = tt

mutual
  unfolding read_term

  term_shorter : (k : ℕ) (ts : List Text) → Shorter (read_term close k ts) ts
  term_shorter zero ts = tt
  term_shorter (suc k) [] = tt
  term_shorter (suc k) (n ∷ ts) = named_shorter k n (λ us. list_shorter k us) (not (is_one_of (bytes "(" ∷ bytes ")" ∷ bytes "," ∷ []) n)) ts

  list_shorter : (k : ℕ) (ts : List Text) → Shorter (read_list close k ts) ts
  list_shorter zero ts = tt
  list_shorter (suc k) ts = items_shorter (read_list close k) (λ us. list_shorter k us) (read_term close k ts) ts (term_shorter k ts)

-- The machine and the grammar

-- the machine goes on with what the grammar read: a term; a list, which it closes
abbrev with_term : Stack → Option Term → Option Tree
with_term k o = o >>= λ (t, r). machine r (has (add t k))

abbrev with_list : Text → Trees → Stack → Option Listed → Option Tree
with_list n us k o = o >>= λ (vs, r). close n (back us vs) >>= λ t. machine r (has (add t k))

closes : (r : List Text) (k : Stack) (o : Option Tree) → (o >>= λ t. machine r (has (add t k))) ≡ with_term k (o >>= λ t. Some (t, r))
closes r k None = refl
closes r k (Some t) = refl

list_closes : (n : Text) (k : Stack) (o : Option Listed) → with_list n none k o ≡ with_term k (o >>= λ (children, vs). close n children >>= λ t. Some (t, vs))
unfolding back
list_closes n k None = refl
list_closes n k (Some (vs, r)) = closes r k (close n vs)

list_goes : (n : Text) (us : Trees) (t : Tree) (k : Stack) (o : Option Listed) → with_list n (more t us) k o ≡ with_list n us k (o >>= λ (rest, ws). Some (more t rest, ws))
unfolding back
list_goes n us t k None = refl
list_goes n us t k (Some (vs, r)) = refl

abbrev ListRuns : ℕ → Type 0
ListRuns f = (q : List Text) (n : Text) (us : Trees) (k : Stack) → length q < f → machine q (wants (level n us k)) ≡ with_list n us k (read_list close f q)

name_runs : (f : ℕ) → ListRuns f → (n : Text) (k : Stack) (ts : List Text) → length ts ≤ f
    → machine ts (named n k) ≡ with_term k (elim (after_token (bytes "(") ts) [ None ↦ Some (leaf n, ts) | Some us ↦ read_list close f us >>= λ (children, vs). close n children >>= λ t. Some (t, vs) ])
unfolding machine after_token
name_runs f h n k [] l = refl
name_runs f h n k (x ∷ us) l = go (same (bytes "(") x)
  where
    go : (b : Bool) → (cond b (Some (wants (level n none k))) (machine_after (add (leaf n) k) x) >>= machine us)
        ≡ with_term k (elim (cond b (Some us) None) [ None ↦ Some (leaf n, x ∷ us) | Some us ↦ read_list close f us >>= λ (children, vs). close n children >>= λ t. Some (t, vs) ])
    go true = h us n none k (omega arith) ∙ list_closes n k (read_list close f us)
    go false = refl

term_starts : (f : ℕ) → ListRuns f → (b : Bool) (n : Text) (k : Stack) (ts : List Text) → length ts ≤ f
    → (guard b >>= (λ _. Some (named n k)) >>= machine ts)
    ≡ with_term k (guard b >>= λ _. elim (after_token (bytes "(") ts) [ None ↦ Some (leaf n, ts) | Some us ↦ read_list close f us >>= λ (children, vs). close n children >>= λ t. Some (t, vs) ])
term_starts f h true n k ts l = name_runs f h n k ts l
term_starts f h false n k ts l = refl

items_run : (f : ℕ) → ListRuns f → (n : Text) (us : Trees) (k : Stack) (o : Option Term) (ts : List Text) → length ts ≤ f → Shorter o ts
    → with_term (level n us k) o ≡ with_list n us k (o >>= after_item (read_list close f))
unfolding machine after_token back
items_run f h n us k None ts l s = refl
items_run f h n us k (Some (t, [])) ts l s = refl
items_run f h n us k (Some (t, x ∷ q)) ts l s = go (same (bytes ",") x) (same (bytes ")") x)
  where
    go : (b c : Bool) → (cond b (Some (wants (level n (more t us) k))) (cond c (close n (back (more t us) none) >>= λ t. Some (has (add t k))) None) >>= machine q)
        ≡ with_list n us k (elim (cond b (Some q) None) [
          | Some vs ↦ read_list close f vs >>= λ (rest, ws). Some (more t rest, ws)
          | None ↦ cond c (Some q) None >>= λ vs. Some (more t none, vs)
        ])
    go true c = h q n (more t us) k (omega arith) ∙ list_goes n us t k (read_list close f q)
    go false true = closed (close n (back us (more t none)))
      where
        closed : (o : Option Tree) → (o >>= (λ t. Some (has (add t k))) >>= machine q) ≡ (o >>= λ t. machine q (has (add t k)))
        closed None = refl
        closed (Some u) = refl
    go false false = refl

mutual
  unfolding read_term machine

  term_runs : (f : ℕ) (ts : List Text) (k : Stack) → length ts ≤ f → machine ts (wants k) ≡ with_term k (read_term close f ts)
  term_runs zero [] k l = refl
  term_runs zero (x ∷ ts) k l = absurd (omega arith)
  term_runs (suc f) [] k l = refl
  term_runs (suc f) (n ∷ ts) k l = term_starts f (λ q n us k l. list_runs f q n us k l) (not (is_one_of (bytes "(" ∷ bytes ")" ∷ bytes "," ∷ []) n)) n k ts (omega arith)

  list_runs : (f : ℕ) (q : List Text) (n : Text) (us : Trees) (k : Stack) → length q < f → machine q (wants (level n us k)) ≡ with_list n us k (read_list close f q)
  list_runs zero q n us k l = absurd (omega arith)
  list_runs (suc f) q n us k l =
      term_runs f q (level n us k) (omega arith) ∙ items_run f (λ q n us k l. list_runs f q n us k l) n us k (read_term close f q) q (omega arith) (term_shorter f q)

ends : (o : Option Term) → with_term (bottom none) o ≡ wholly o
unfolding machine
ends None = refl
ends (Some (t, [])) = refl
ends (Some (t, x ∷ r)) = refl

-- the machine from the start reads what the grammar reads
pub reads : (s : Text) → machine_reading s 0 (wants (bottom none)) ≡ read_text close s
unfolding read_text
reads s = go (tokens s)
  where
    go : (o : Option (List Text)) → (o >>= λ ts. machine ts (wants (bottom none))) ≡ (o >>= λ ts. wholly (read_term close (length ts) ts))
    go None = refl
    go (Some ts) = term_runs (length ts) ts (bottom none) (omega arith) ∙ ends (read_term close (length ts) ts)
