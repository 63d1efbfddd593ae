-- The line reader at a position of a sheet, and the lines of the sheet from there on.
use mathlib.Core.Path.{◌≡◌, refl, ap, ap₂, sym, ◌∙◌}
use mathlib.Core.List.{List, [], ◌∷◌}
use Rattle.std.specs.Prelude.{Option, Some, None, option_map}
use mathlib.Core.Bool.{Bool, true, false, cond}
use Prim.Native.Nat.{ℕ, suc, ◌+◌, ◌-◌, ◌<◌, ◌≤◌}
use native.Mathlib.Omega.{arith}
use native.Mathlib.Nat.{add-sub_cancel_left}
use lib.Seq.{drop-drop}
use lib.ListN.{length, take, drop, drop_of_length-le, length-take, length-drop}
use lib.Dec.{eqb}
use Rattle.std.proofs.lemmas.List.Quantifiers.{position-Some}
use Rattle.rules.specs.Bytes.{Text}
use Rattle.rules.specs.Maybe.{◌>>=◌}
use Rattle.rules.specs.Lines.{lines, on_first, after_key, value}
use Rattle.laws.proofs.Basics.Somes.{some_injective, some_ne_none, none_ne_some}
use Rattle.laws.proofs.Basics.Tests.{and_right}
use Rattle.text.specs.Prefix.{begins_with}
use Rattle.text.proofs.Prefixes.{after_key_is}
use Rattle.text.proofs.Slices.{drop_take}
use Rattle.text.proofs.Library.{position_more}
use Rattle.sheet.specs.Lines.{up_to, line_between, line_of, line_at, lines_at, value_of, value_at, part_of}
use Rattle.sheet.specs.declared.Place.{Place}
use Rattle.sheet.specs.declared.Read.{Read}

-- the line reader and the list of all lines
add_line : Text → Option (List Text) → Option (List Text)
add_line l o = o >>= λ ls. Some (l ∷ ls)

lines_turn : (a : ℕ) (s : Text) (t : Bool) (o : Option ℕ) → ((k : ℕ) → o ≡ Some k → lines s ≡ add_line (take k s) (lines (drop (suc k) s))) → (k : ℕ)
    → cond t (Some 0) (option_map suc o) ≡ Some k → on_first t a (lines s) ≡ add_line (take k (a ∷ s)) (lines (drop (suc k) (a ∷ s)))
unfolding add_line
lines_turn a s true o ih k e = let z : k ≡ 0 = cc in rw z (go (lines s))
  where
    go : (p : Option (List Text)) → on_first true a p ≡ (p >>= λ ls. Some ([] ∷ ls))
    go None = refl
    go (Some ls) = refl
lines_turn a s false None ih k e = cc
lines_turn a s false (Some j) ih k e =
    let z : k ≡ suc j = cc in
    rw z (ap (on_first false a) (ih j refl) ∙ go (lines (drop (suc j) s)))
  where
    go : (p : Option (List Text)) → on_first false a (p >>= λ ls. Some (take j s ∷ ls)) ≡ (p >>= λ ls. Some ((a ∷ take j s) ∷ ls))
    go None = refl
    go (Some ls) = refl

lines_cut : (s : Text) (k : ℕ) → up_to 10 s ≡ Some k → lines s ≡ add_line (take k s) (lines (drop (suc k) s))
unfolding lines
lines_cut [] k e = cc
lines_cut (a ∷ s) k e = lines_turn a s (eqb a 10) (up_to 10 s) (lines_cut s) k (sym (position_more (λ (x : ℕ). eqb x 10) a s) ∙ e)

-- no line that ends: no lines, or none
abbrev pub Empty : Option (List Text) → Type 0
Empty None = Unit
Empty (Some []) = Unit
Empty (Some (l ∷ ls)) = ⊥

lines_none_turn : (a : ℕ) (s : Text) (t : Bool) (o : Option ℕ) → (o ≡ None → Empty (lines s)) → cond t (Some 0) (option_map suc o) ≡ None → Empty (on_first t a (lines s))
lines_none_turn a s true o ih e = absurd (some_ne_none _ e)
lines_none_turn a s false (Some j) ih e = absurd (some_ne_none _ e)
lines_none_turn a s false None ih e = go (lines s) (ih refl)
  where
    go : (p : Option (List Text)) → Empty p → Empty (on_first false a p)
    go None h = tt
    go (Some []) h = tt
    go (Some (l ∷ ls)) h = h

lines_none : (s : Text) → up_to 10 s ≡ None → Empty (lines s)
unfolding lines
lines_none [] e = tt
lines_none (a ∷ s) e = lines_none_turn a s (eqb a 10) (up_to 10 s) (lines_none s) (sym (position_more (λ (x : ℕ). eqb x 10) a s) ∙ e)

-- a line that is there is the first of the lines from there on
record First (s : Text) (at : ℕ) (l : Read Place) : Type 0 where
  begins : l.value.from ≡ at
  ends : (l.value.from ≤ l.value.to) × (l.value.to < length s)
  after : l.next.at ≡ l.value.to + 1
  first : lines_at s at ≡ (lines_at s l.next.at >>= λ ls. Some (part_of l.value.from l.value.to s ∷ ls))

first_of : (s : Text) (at : ℕ) (l : Read Place) (o : Option ℕ) → up_to 10 (drop at s) ≡ o → Some l ≡ option_map (line_of at) o → First s at l
unfolding lines_at add_line
first_of s at l None u e = absurd (some_ne_none l e)
first_of s at l (Some k) u e =
    let z : l ≡ line_of at k = some_injective _ _ e in
    let w : at + k + 1 ≡ at + suc k = omega arith in
    rw z (record {
      begins = refl;
      ends = omega (arith, (position-Some _ (drop at s) k 0 u).0, length-drop at s);
      after = refl;
      first = lines_cut (drop at s) k u ∙ rw (add-sub_cancel_left at k, w, ← drop-drop (suc k) at s);
    })

line_first : (s : Text) (at : ℕ) (l : Read Place) → Some l ≡ line_at s at → First s at l
unfolding line_at
line_first s at l e = first_of s at l (up_to 10 (drop at s)) refl e

no_line_of : (s : Text) (at : ℕ) (o : Option ℕ) → up_to 10 (drop at s) ≡ o → None ≡ option_map (line_of at) o → Empty (lines_at s at)
unfolding lines_at
no_line_of s at None u e = lines_none (drop at s) u
no_line_of s at (Some k) u e = absurd (none_ne_some _ e)

no_line : (s : Text) (at : ℕ) → None ≡ line_at s at → Empty (lines_at s at)
unfolding line_at
no_line s at e = no_line_of s at (up_to 10 (drop at s)) refl e

-- ---- lines with a key

pub record Keyed (s key : Text) (at : ℕ) (l : Read Place) : Type 0 where
  pub line : Text
  pub has : after_key key line ≡ Some (part_of l.value.from l.value.to s)
  pub begins : l.value.from ≡ at + length key
  pub ends : (l.value.from ≤ l.value.to) × (l.value.to < length s)
  pub after : l.next.at ≡ l.value.to + 1
  pub first : lines_at s at ≡ (lines_at s l.next.at >>= λ ls. Some (line ∷ ls))

-- no line there, or one without the key
abbrev pub Unkeyed : Text → Option (List Text) → Type 0
Unkeyed key None = Unit
Unkeyed key (Some []) = Unit
Unkeyed key (Some (l ∷ ls)) = after_key key l ≡ None

part_later : (s : Text) (f t n : ℕ) → drop n (part_of f t s) ≡ part_of (f + n) t s
part_later s f t n =
    drop_take n (t - f) (drop f s) ∙ ap₂ (λ (i : ℕ) (l : Text). take i l) (let e : t - f - n ≡ t - (f + n) = omega arith in e) (drop-drop n f s)

begins_length : (k s : Text) → begins_with k s ≡ true → length k ≤ length s
unfolding begins_with
begins_length [] s e = omega arith
begins_length (k ∷ ks) [] e = cc
begins_length (k ∷ ks) (b ∷ s) e = omega (arith, begins_length ks s (and_right (eqb b k) (begins_with ks s) e))

keyed_by : (s key : Text) (at : ℕ) (l r : Read Place) (x : Bool) → First s at r → begins_with key (part_of r.value.from r.value.to s) ≡ x
    → Some l ≡ cond x (Some (line_between (r.value.from + length key) r.value.to r.next)) None → Keyed s key at l
keyed_by s key at l r false h p q = absurd (some_ne_none l q)
keyed_by s key at l r true h p q =
    let z : l ≡ line_between (r.value.from + length key) r.value.to r.next = some_injective _ _ q in
    let b = h.begins in
    let e = h.ends in
    let text = part_of r.value.from r.value.to s in
    let fits : r.value.from + length key ≤ r.value.to =
    omega (arith, begins_length key text p, length-take (r.value.to - r.value.from) (drop r.value.from s), length-drop r.value.from s) in
    rw z (record {
      line = text;
      has = after_key_is key text ∙ (rw p) ∙ ap Some (part_later s r.value.from r.value.to (length key));
      begins = omega arith;
      ends = (fits, h.ends.1);
      after = h.after;
      first = h.first;
    })

keyed_of : (s key : Text) (at : ℕ) (l : Read Place) (o : Option (Read Place)) → o ≡ line_at s at → Some l ≡ (o >>= value_of s key) → Keyed s key at l
keyed_of s key at l None e q = absurd (some_ne_none l q)
keyed_of s key at l (Some r) e q = keyed_by s key at l r (begins_with key (part_of r.value.from r.value.to s)) (line_first s at r e) refl q

pub keyed : (s key : Text) (at : ℕ) (l : Read Place) → Some l ≡ value_at s key at → Keyed s key at l
unfolding value_at
keyed s key at l q = keyed_of s key at l (line_at s at) refl q

-- a line's value stands within the sheet
pub keyed_inside : (s key : Text) (at : ℕ) (l : Read Place) → Some l ≡ value_at s key at → (l.value.from ≤ l.value.to) × (l.value.to < length s)
keyed_inside s key at l q = (keyed s key at l q).ends

unkeyed_first : (key l : Text) (o : Option (List Text)) → after_key key l ≡ None → Unkeyed key (o >>= λ ls. Some (l ∷ ls))
unkeyed_first key l None p = tt
unkeyed_first key l (Some ls) p = p

unkeyed_empty : (key : Text) (o : Option (List Text)) → Empty o → Unkeyed key o
unkeyed_empty key None h = tt
unkeyed_empty key (Some []) h = tt
unkeyed_empty key (Some (l ∷ ls)) h = absurd h

unkeyed_by : (s key : Text) (at : ℕ) (r : Read Place) (x : Bool) → First s at r → begins_with key (part_of r.value.from r.value.to s) ≡ x
    → None ≡ cond x (Some (line_between (r.value.from + length key) r.value.to r.next)) None → Unkeyed key (lines_at s at)
unkeyed_by s key at r true h p q = absurd (none_ne_some _ q)
unkeyed_by s key at r false h p q =
    let text = part_of r.value.from r.value.to s in
    rw h.first (unkeyed_first key text (lines_at s r.next.at) (after_key_is key text ∙ rw p))

unkeyed_of : (s key : Text) (at : ℕ) (o : Option (Read Place)) → o ≡ line_at s at → None ≡ (o >>= value_of s key) → Unkeyed key (lines_at s at)
unkeyed_of s key at None e q = unkeyed_empty key (lines_at s at) (no_line s at e)
unkeyed_of s key at (Some r) e q = unkeyed_by s key at r (begins_with key (part_of r.value.from r.value.to s)) (line_first s at r e) refl q

pub unkeyed : (s key : Text) (at : ℕ) → None ≡ value_at s key at → Unkeyed key (lines_at s at)
unfolding value_at
unkeyed s key at q = unkeyed_of s key at (line_at s at) refl q

-- ---- readings that go on from a line

module _ {A : Type 0} (s key : Text) (at : ℕ) (go_on : Text × List Text → Option A) where
  go_with : (l v : Text) (o : Option (List Text)) → after_key key l ≡ Some v
      → ((o >>= λ ls. Some (l ∷ ls)) >>= λ ls. value key ls >>= go_on) ≡ (o >>= λ ls. go_on (v, ls))
  unfolding value
  go_with l v None p = refl
  go_with l v (Some ls) p = ap (λ (o : Option Text). (o >>= λ w. Some (w, ls)) >>= go_on) p

  pub then : (l : Read Place) → Keyed s key at l
      → (lines_at s at >>= λ ls. value key ls >>= go_on) ≡ (lines_at s l.next.at >>= λ ls. go_on (part_of l.value.from l.value.to s, ls))
  then l h = ap (λ (o : Option (List Text)). o >>= λ ls. value key ls >>= go_on) h.first ∙ go_with h.line (part_of l.value.from l.value.to s) (lines_at s l.next.at) h.has

  go_without : (o : Option (List Text)) → Unkeyed key o → (o >>= λ ls. value key ls >>= go_on) ≡ None
  unfolding value
  go_without None h = refl
  go_without (Some []) h = refl
  go_without (Some (l ∷ ls)) h = ap (λ (o : Option Text). (o >>= λ w. Some (w, ls)) >>= go_on) h

  pub then_none : Unkeyed key (lines_at s at) → (lines_at s at >>= λ ls. value key ls >>= go_on) ≡ None
  then_none h = go_without (lines_at s at) h

-- no line after the end; before it a line or none
pub lines_end : (s : Text) (at : ℕ) → length s ≤ at → lines_at s at ≡ Some []
unfolding lines_at lines
lines_end s at h = rw (drop_of_length-le s h)

not_empty : (s : Text) → 0 < length s → lines s ≡ Some [] → ⊥
unfolding lines
not_empty [] h e = omega arith
not_empty (b ∷ s) h e = go (eqb b 10) (lines s) e
  where
    go : (t : Bool) (o : Option (List Text)) → on_first t b o ≡ Some [] → ⊥
    go true None f = cc
    go true (Some ls) f = cc
    go false None f = cc
    go false (Some []) f = cc
    go false (Some (l ∷ ls)) f = cc

pub lines_more : (s : Text) (at : ℕ) → at < length s → lines_at s at ≡ Some [] → ⊥
unfolding lines_at
lines_more s at h = not_empty (drop at s) (omega (arith, length-drop at s))
