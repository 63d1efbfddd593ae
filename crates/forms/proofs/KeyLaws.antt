-- The keys of a member as places: gathering them, and the test that none stands twice.
use Prim.Native.Nat.{ℕ, zero, suc, ◌+◌, ◌*◌, ◌<◌, ◌≤◌}
use mathlib.Core.Path.{◌≡◌, refl, ap, ap₂, sym, ◌∙◌}
use mathlib.Core.Bool.{Bool, true, false, not}
use mathlib.Core.List.{List, [], ◌∷◌, ◌++◌, map}
use lib.ListN.{length, get_or, take, set}
use lib.Seq.{take-suc-set}
use native.Mathlib.Omega.{arith}
use lib.Dec.{eqb}
use Rattle.std.specs.Cmp.Lexicographic.{pointwise}
use native.Mathlib.Numerals.{add-one}
use Rattle.rules.specs.Bytes.{Text, same}
use Rattle.rules.specs.Text.{bytes}
use Rattle.rules.specs.Sheet.{Entry, distinct_keys}
use Rattle.text.specs.Places.{text_at, places_upto}
use Rattle.laws.specs.Sorting.{sort_by}
use Rattle.text.proofs.Library.{same_is}
use Rattle.laws.proofs.Basics.Sorting.{sort_texts}
use Rattle.std.specs.Prelude.{Option, Some, None, IsTrue, ◌↔◌}
use Rattle.std.proofs.lemmas.List.{map-append}
use Rattle.laws.proofs.Basics.Tests.{and_left, and_right, and_both}
use Rattle.sheet.specs.Lines.{value_at}
use Rattle.sheet.specs.Pairs.{two_lines_at}
use Rattle.forms.specs.Members.{members_at, counted, distinct, apart, Gathers, Gathered}
use Rattle.forms.specs.Form.{text_of}
use Rattle.sheet.specs.declared.Read.{Read}
use Rattle.sheet.specs.declared.Place.{Place}
use Rattle.sheet.specs.declared.Sides.{Sides}
use Rattle.sheet.specs.Places.{word_of}
use Rattle.sheet.proofs.Words.{text_at_word}
use Rattle.sheet.proofs.LineLaws.{keyed, unkeyed}
use Rattle.forms.proofs.PairLaws.{Paired, paired, entry, stops, walk_starts, walk_turn}
use Rattle.forms.proofs.Distinct.{apart_sort, distinct_keys_are}
use Rattle.forms.proofs.MemberLaws.{members_end, members_missing, member_repeats, member_there, count_more}

-- ---- gathering

pub gathers_none : (s : Text) (at : ℕ) (words : List ℕ) → Gathers s at words 0 at
unfolding walk_starts
gathers_none s at words = record { walk = walk_starts (bytes "key=") (bytes "value=") s at; texts = refl; few = omega arith }

module _ (s : Text) (at : ℕ) (words : List ℕ) (count : ℕ) {c : ℕ} {p : Read Sides} (g : Gathers s at words count c)
    (q : Some p ≡ two_lines_at (bytes "key=") (bytes "value=") s c) (k : length s ≤ 65536) where
  abbrev lines_there : Paired (bytes "key=") (bytes "value=") s c p
  lines_there = paired (bytes "key=") (bytes "value=") s c p q

  pub gathers_room : (12 * (count + 1) + at ≤ p.next.at) × (p.next.at ≤ 65536) × (c < p.next.at) × (p.next.at ≤ length s)
  gathers_room = let h = lines_there in omega (arith, g.few, h.one.begins, h.one.ends, h.one.after, h.two.begins, h.two.ends, h.two.after)

  pub word_fits : (p.value.left.from < 65536) × (p.value.left.from ≤ p.value.left.to) × (p.value.left.to < p.value.left.from + 65536)
  word_fits = omega (arith, (lines_there).one.ends)

  pub gathers_more : (x : ℕ) → count < length words → x ≡ word_of p.value.left → Gathers s at (set words count x) (count + 1) p.next.at
  unfolding walk_turn
  gathers_more x m e =
      let fits = word_fits in
      let one : text_at s x ≡ text_of s p.value.left = ap (text_at s) e ∙ text_at_word s p.value.left fits.1 fits.2 in
      record {
        walk = walk_turn (bytes "key=") (bytes "value=") s at g.walk q;
        texts =
            ap (λ (i : ℕ). map (text_at s) (take i (set words count x))) (add-one count)
            ∙ ap (map (text_at s)) (take-suc-set words count x m)
            ∙ map-append (text_at s) (take count words) (x ∷ [])
            ∙ ap₂ (λ (a : List Text) (b : Text). a ++ (b ∷ [])) g.texts one
            ∙ sym (map-append (λ (e : Entry). e.0) g.walk.es (entry (bytes "key=") (bytes "value=") s c p ∷ []));
        few = gathers_room.0;
      }

-- ---- the test of neighbours

-- no word names the same text as the next
abbrev Apart : Text → List ℕ → Type 0
Apart s w = (k : ℕ) → k + 1 < length w → pointwise eqb (text_at s (get_or w k 0)) (text_at s (get_or w (k + 1) 0)) ≡ false

apart_from : (s : Text) (w : List ℕ) → Apart s w → apart (map (text_at s) w) ≡ true
unfolding apart
apart_from s [] h = refl
apart_from s (x ∷ []) h = refl
apart_from s (x ∷ y ∷ w) h =
    and_both (not (same (text_at s x) (text_at s y))) (apart (map (text_at s) (y ∷ w))) (ap not (sym (same_is (text_at s x) (text_at s y)) ∙ h 0 (omega arith)))
    (apart_from s (y ∷ w) (λ k l. rw (add-one k) (rw (add-one (suc k)) at (h (suc k) (omega arith)))))

apart_to : (s : Text) (w : List ℕ) → apart (map (text_at s) w) ≡ true → Apart s w
unfolding apart
apart_to s [] e k h = absurd (omega arith)
apart_to s (x ∷ []) e k h = absurd (omega arith)
apart_to s (x ∷ y ∷ w) e zero h = same_is (text_at s x) (text_at s y) ∙ go (same (text_at s x) (text_at s y)) (and_left (not (same (text_at s x) (text_at s y))) (apart (map (text_at s) (y ∷ w))) e)
  where
    go : (b : Bool) → not b ≡ true → b ≡ false
    go true e = sym e
    go false e = refl
apart_to s (x ∷ y ∷ w) e (suc k) h =
    let r = apart_to s (y ∷ w) (and_right (not (same (text_at s x) (text_at s y))) (apart (map (text_at s) (y ∷ w))) e) k (omega arith) in
    rw (add-one (suc k)) (rw (add-one k) at r)

pub apart_is : (s : Text) (w : List ℕ) (r : Bool) → (IsTrue r ↔ Apart s w) → r ≡ apart (map (text_at s) w)
apart_is s w true h = sym (apart_from s w (h.0 refl))
apart_is s w false h = go (apart (map (text_at s) w)) (apart_to s w)
  where
    go : (b : Bool) → (b ≡ true → Apart s w) → false ≡ b
    go true f = h.1 (f refl)
    go false f = refl

-- sorted places of which none names the same text as the next name distinct texts
pub apart_places : (s : Text) (l : List ℕ) → apart (map (text_at s) (sort_by (places_upto s) l)) ≡ distinct (map (text_at s) l)
unfolding places_upto
apart_places s l = ap apart (sort_texts (text_at s) l) ∙ apart_sort (map (text_at s) l)

-- ---- counting members

module _ (s : Text) (at n : ℕ) {g : Option ℕ} (inv : counted n (members_at s at) ≡ g) where
  pub count_end : length s ≤ at → Some n ≡ g
  count_end h = sym (ap (counted n) (members_end s at h) ∙ ap Some (omega arith)) ∙ inv

  pub count_missing : at < length s → None ≡ value_at s (bytes "member=") at → None ≡ g
  count_missing h e = sym (ap (counted n) (members_missing s at h (unkeyed s (bytes "member=") at e))) ∙ inv

  module _ (l : Read Place) (e : Some l ≡ value_at s (bytes "member=") at) {words : List ℕ} {count c : ℕ} (k : Gathered s l.next.at words count c)
      {d : Bool} (q : d ≡ distinct (map (text_at s) (take count words))) where
    is_distinct : d ≡ distinct_keys k.all.walk.es []
    is_distinct = q ∙ ap distinct k.all.texts ∙ sym (distinct_keys_are k.all.walk.es)

    pub count_repeats : d ≡ false → None ≡ g
    count_repeats h =
        sym (ap (counted n) (member_repeats s at l (keyed s (bytes "member=") at l e) c k.all.walk (stops (bytes "key=") (bytes "value=") s c k.stops) (sym is_distinct ∙ h))) ∙ inv

    pub count_turn : d ≡ true → counted (n + 1) (members_at s c) ≡ g
    count_turn h =
        sym (ap (counted n) (member_there s at l (keyed s (bytes "member=") at l e) c k.all.walk (stops (bytes "key=") (bytes "value=") s c k.stops) (sym is_distinct ∙ h))
        ∙ count_more n (text_of s l.value, k.all.walk.es) (members_at s c)) ∙ inv

    pub count_later : (at < c) × (c ≤ length s)
    count_later = let h = keyed s (bytes "member=") at l e in omega (arith, h.begins, h.ends, h.after, k.all.walk.low, k.all.walk.high (omega (arith, h.ends, h.after)))
