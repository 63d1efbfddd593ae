-- A text reads as a tree exactly where it reads as it is written, and what that reads as closes to the tree, within 4,096 nodes.
use Prim.Native.Nat.{ℕ, ◌≤◌}
use mathlib.Core.Path.{◌≡◌, refl, sym, ◌∙◌, ap, subst}
use mathlib.Core.Bool.{Bool, true, false, ◌||◌, false≢true}
use mathlib.Core.List.{[], ◌∷◌}
use mathlib.Core.Logic.{◌↔◌}
use Rattle.std.specs.Prelude.{Option, Some}
use lib.Dec.{leb}
use Rattle.rules.specs.Bytes.{Text, same}
use Rattle.rules.specs.Text.{count_of}
use Rattle.rules.specs.Maybe.{◌>>=◌, guard}
use Rattle.rules.specs.Names.{digit, all, number, word, identifier, variable_token, letter, letter_name}
use Rattle.rules.specs.Tree.{Tree, variable, atom, apply, Trees, none, more, size, tamtplus, plus}
use Rattle.rules.specs.Sums.{rebuild}
use Rattle.rules.specs.Grouping.{read_written, Written, a_variable, a_leaf, a_list, Writtens, no_more, one_more}
use Rattle.rules.specs.Reading.{leaf, single, constant_name, atom_of, nested, sum_of, close, as_written, read_text, parse}
use Rattle.laws.specs.Closing.{RightNested, list_of, ClosesTo, AllCloseTo}
use Rattle.laws.proofs.Basics.Tests.{leb_true, true_leb, same_eq}
use Rattle.laws.proofs.Basics.Somes.{some_injective, none_ne_some}
use Rattle.laws.proofs.Basics.Options.{bound, guarded}
use Rattle.laws.proofs.Basics.Spelling.{word_colons, variable_colon, not_zero, number_all}
use Rattle.laws.proofs.Equality.RightNested.{nests, nests_only}
use Rattle.laws.proofs.Reading.Throughout.{AllIn, throughout}
use Rattle.laws.proofs.Reading.Closing.{closed, all_closed, text_closed}

-- What is read as it is written

pub leaf_written : (n : Text) → (word n || variable_token n) ≡ true → Written (leaf n)
unfolding leaf
leaf_written n h = go (word n) refl h
  where
    go : (x : Bool) → word n ≡ x → (x || variable_token n) ≡ true → Written (leaf n)
    go true e k = rw (word_colons n e) (a_leaf e)
    go false e k = rw (not_zero (count_of 58 n) (variable_colon n k)) (a_variable k)

all_written : (ts : Trees) → AllIn Written ts → Writtens ts
all_written none h = no_more
all_written (more t ts) h = one_more h.0 (all_written ts h.1)

pub writes : (s : Text) (t : Tree) → read_written s ≡ Some t → Written t
unfolding read_written
writes = throughout as_written Written leaf_written
    (λ n t us v w h hs e. subst Written (some_injective (apply n (more t us)) v e) (a_list w h (all_written us hs)))

-- A name and its list

pub the_only : (ts : Trees) (t : Tree) → single ts ≡ Some t → ts ≡ more t none
the_only none t h = absurd (none_ne_some t h)
the_only (more u none) t h = ap (λ (x : Tree). more x none) (some_injective u t h)
the_only (more u (more v us)) t h = absurd (none_ne_some t h)

pub the_name : (t : Tree) (d : Text) → constant_name t ≡ Some d → t ≡ apply d none
the_name (variable x) d h = absurd (none_ne_some d h)
the_name (atom c e) d h = absurd (none_ne_some d h)
the_name (apply n none) d h = ap (λ (x : Text). apply x none) (some_injective n d h)
the_name (apply n (more u us)) d h = absurd (none_ne_some d h)

nested_rebuilt : (t : Tree) (us : Trees) → nested t us ≡ rebuild t (list_of us)
unfolding nested rebuild
nested_rebuilt t none = refl
nested_rebuilt t (more u us) = ap (plus t) (nested_rebuilt u us)

run_number : {d : Text} → Written (apply d none) → all digit d ≡ true → number d ≡ true
unfolding all number word identifier
run_number {d = []} (a_leaf w) h = absurd (false≢true w)
run_number {d = b ∷ d} w h = h

around_run : {c : ℕ} {d : Text} {w : Tree} {ws : Trees} → letter c ≡ true → Written w → ClosesTo w (apply d none) → AllCloseTo ws none → all digit d ≡ true
    → ClosesTo (apply (c ∷ []) (more w ws)) (atom c d)
around_run l w ClosesTo.a_leaf AllCloseTo.nil a = ClosesTo.an_atom l (run_number w a)

letter_closes : (f : Text) {w u : Tree} {ws us : Trees} (t : Tree) → letter_name f ≡ true → Written w → ClosesTo w u → AllCloseTo ws us → atom_of f (more u us) ≡ Some t
    → ClosesTo (apply f (more w ws)) t
unfolding atom_of letter_name
letter_closes [] t l w h hs e = absurd (false≢true l)
letter_closes (c ∷ []) {w = x} {u = u} {ws = xs} {us = us} t l w h hs e =
    let (v, p, e₁) = bound (single (more u us)) _ t e in
    let (d, q, e₂) = bound (constant_name v) _ t e₁ in
    let (y, g, e₃) = bound (guard (all digit d)) (λ _. Some (atom c d)) t e₂ in
    let k = the_only (more u us) v p in
    let m = the_name v d q in
    let a : u ≡ apply d none = cc in
    let b : us ≡ none = cc in
    subst (ClosesTo (apply (c ∷ []) (more x xs))) (some_injective (atom c d) t e₃)
    (around_run l w (subst (ClosesTo x) a h) (subst (AllCloseTo xs) b hs) (guarded _ y g))
letter_closes (b ∷ c ∷ f) t l w h hs e = absurd (false≢true l)

sum_closes : {w u t : Tree} {ws us : Trees} → ClosesTo w u → AllCloseTo ws us → sum_of (more u us) ≡ Some t → ClosesTo (apply tamtplus (more w ws)) t
unfolding sum_of nested
sum_closes {t = t} h AllCloseTo.nil e = absurd (none_ne_some t e)
sum_closes {w = w} {u = u} {t = t} h (AllCloseTo.both {t = x} {u = v} {ts = xs} {us = vs} k l) e =
    subst (ClosesTo (apply tamtplus (more w (more x xs)))) (some_injective (plus u (nested v vs)) t e)
    (ClosesTo.a_sum h k l (subst (RightNested (v ∷ list_of vs)) (sym (nested_rebuilt v vs)) (nests v (list_of vs))))

name_closes : (f : Text) {w u : Tree} {ws us : Trees} (t : Tree) → Written w → ClosesTo w u → AllCloseTo ws us → close f (more u us) ≡ Some t → ClosesTo (apply f (more w ws)) t
unfolding close
name_closes f {w = w} {u = u} {ws = ws} {us = us} t b h hs e = go (letter_name f) refl e
  where
    sums : letter_name f ≡ false → (x : Bool) → same f tamtplus ≡ x → elim x [ true ↦ sum_of (more u us) | false ↦ Some (apply f (more u us)) ] ≡ Some t
        → ClosesTo (apply f (more w ws)) t
    sums l true s k = subst (λ (n : Text). ClosesTo (apply n (more w ws)) t) (sym (same_eq f tamtplus s)) (sum_closes h hs k)
    sums l false s k = subst (ClosesTo (apply f (more w ws))) (some_injective (apply f (more u us)) t k) (ClosesTo.a_list l s h hs)

    go : (x : Bool) → letter_name f ≡ x
        → elim x [ true ↦ atom_of f (more u us) | false ↦ elim (same f tamtplus) [ true ↦ sum_of (more u us) | false ↦ Some (apply f (more u us)) ] ] ≡ Some t
        → ClosesTo (apply f (more w ws)) t
    go true l k = letter_closes f t l b h hs k
    go false l k = sums l (same f tamtplus) refl k

-- The function is the relation

mutual
  unfolding closed

  closes : {w : Tree} → Written w → (t : Tree) → closed w ≡ Some t → ClosesTo w t
  closes (a_variable {x = x} v) t e = subst (ClosesTo (variable x)) (some_injective (variable x) t e) ClosesTo.a_variable
  closes (a_leaf {f = f} h) t e = subst (ClosesTo (apply f none)) (some_injective (apply f none) t e) ClosesTo.a_leaf
  closes (a_list {f = f} {t = w} {ts = ws} n h hs) t e =
      let (us, g, e₁) = bound (all_closed (more w ws)) (close f) t e in
      let (u, k, g₁) = bound (closed w) _ us g in
      let (vs, l, g₂) = bound (all_closed ws) (λ xs. Some (more u xs)) us g₁ in
      name_closes f t h (closes h u k) (all_close hs vs l) (ap (close f) (some_injective (more u vs) us g₂) ∙ e₁)

  all_close : {ws : Trees} → Writtens ws → (us : Trees) → all_closed ws ≡ Some us → AllCloseTo ws us
  all_close no_more us e = subst (AllCloseTo none) (some_injective none us e) AllCloseTo.nil
  all_close (one_more {t = w} {ts = ws} h hs) us e =
      let (u, k, e₁) = bound (closed w) _ us e in
      let (vs, l, e₂) = bound (all_closed ws) (λ xs. Some (more u xs)) us e₁ in
      subst (AllCloseTo (more w ws)) (some_injective (more u vs) us e₂) (AllCloseTo.both (closes h u k) (all_close hs vs l))

pub closes_list : (f : Text) (t : Tree) (ts : Trees) → letter_name f ≡ false → same f tamtplus ≡ false → close f (more t ts) ≡ Some (apply f (more t ts))
unfolding close
closes_list f t ts l s =
    ap {B = Option Tree} (λ (b : Bool). elim b [ true ↦ atom_of f (more t ts) | false ↦ elim (same f tamtplus) [ true ↦ sum_of (more t ts) | false ↦ Some (apply f (more t ts)) ] ]) l
    ∙ ap {B = Option Tree} (λ (b : Bool). elim b [ true ↦ sum_of (more t ts) | false ↦ Some (apply f (more t ts)) ]) s

pub closes_sum : (t u v : Tree) (us : Trees) → RightNested (u ∷ list_of us) v → close tamtplus (more t (more u us)) ≡ Some (plus t v)
unfolding close sum_of nested letter_name
closes_sum t u v us r = ap (λ (x : Tree). Some (plus t x)) (nested_rebuilt u us ∙ nests_only r)

pub closes_atom : (c : ℕ) (d : Text) → letter c ≡ true → number d ≡ true → close (c ∷ []) (more (apply d none) none) ≡ Some (atom c d)
unfolding close atom_of letter_name
closes_atom c d l n =
    let ts = more (apply d none) none in
    ap {B = Option Tree} (λ (b : Bool). elim b [ true ↦ atom_of (c ∷ []) ts | false ↦ elim (same (c ∷ []) tamtplus) [ true ↦ sum_of ts | false ↦ Some (apply (c ∷ []) ts) ] ]) l
    ∙ ap {B = Option Tree} (λ (b : Bool). guard b >>= λ _. Some (atom c d)) (number_all d n)

mutual
  unfolding closed

  closed_as : {w t : Tree} → ClosesTo w t → closed w ≡ Some t
  closed_as ClosesTo.a_variable = refl
  closed_as ClosesTo.a_leaf = refl
  closed_as (ClosesTo.an_atom {c = c} {d = d} l n) = closes_atom c d l n
  closed_as (ClosesTo.a_list {f = f} {u = u} {us = us} l s h hs) = rw (closed_as h, all_closed_as hs) (closes_list f u us l s)
  closed_as (ClosesTo.a_sum {t = t} {u = u} {v = v} {us = us} h k hs r) = rw (closed_as h, closed_as k, all_closed_as hs) (closes_sum t u v us r)

  all_closed_as : {ws ts : Trees} → AllCloseTo ws ts → all_closed ws ≡ Some ts
  all_closed_as AllCloseTo.nil = refl
  all_closed_as (AllCloseTo.both h hs) = rw (closed_as h, all_closed_as hs)

-- So of texts

pub reads_closed : (s : Text) (t : Tree) → (read_text close s ≡ Some t) ↔ ((w : Tree) × (read_written s ≡ Some w) × ClosesTo w t)
reads_closed s t = (
  λ e. let (w, f, g) = bound (read_written s) closed t (sym (text_closed s) ∙ e) in (w, f, closes (writes s w f) t g),
  λ z. text_closed s ∙ ap (λ (o : Option Tree). o >>= closed) z.1 ∙ closed_as z.2,
)

pub parse_closes : (s : Text) (t : Tree) → (parse s ≡ Some t) ↔ ((w : Tree) × (read_written s ≡ Some w) × ClosesTo w t × (size t ≤ 4096))
unfolding parse
parse_closes s t = (
  λ e.
      let (v, f, e₁) = bound (read_text close s) _ t e in
      let (x, g, e₂) = bound (guard (leb (size v) 4096)) (λ _. Some v) t e₁ in
      let k = some_injective v t e₂ in
      let (w, h, c) = (reads_closed s t).0 (f ∙ ap Some k) in
      (w, h, c, subst (λ (u : Tree). size u ≤ 4096) k (leb_true (size v) 4096 (guarded _ x g))),
  λ z.
      ap (λ (o : Option Tree). o >>= λ u. guard (leb (size u) 4096) >>= λ _. Some u) ((reads_closed s t).1 (z.0, z.1, z.2))
      ∙ ap (λ (b : Bool). guard b >>= λ _. Some t) (true_leb (size t) 4096 z.3),
)
