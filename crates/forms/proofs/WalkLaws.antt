-- What the walk over pairs, members and entries finds, told from the lists that a sheet holds.
use mathlib.Core.Path.{◌≡◌, refl, ap, sym, subst, ◌∙◌}
use mathlib.Core.Logic.{⊎_elim}
use mathlib.Core.Bool.{true}
use mathlib.Core.List.{List, [], ◌∷◌}
use Rattle.std.specs.Prelude.{Option, Some, None}
use Prim.Native.Nat.{ℕ}
use Rattle.rules.specs.Bytes.{Text}
use Rattle.rules.specs.Text.{bytes}
use Rattle.rules.specs.Maybe.{◌>>=◌, guard}
use Rattle.rules.specs.Lines.{after_key}
use Rattle.rules.specs.Sheet.{Entry, Member, Sheet, asks_cover, asks_sound, asks_complete, with_entry, pairs, distinct_keys, members_from, none_waiting, at_end, one_member}
use Rattle.laws.proofs.Basics.Options.{bound, guarded}
use Rattle.laws.proofs.Sheets.SheetTexts.{the_member}
use Rattle.laws.proofs.Basics.Somes.{none_ne_some}
use Rattle.sheet.specs.Lines.{lines_at, value_at}
use Rattle.sheet.specs.Pairs.{two_lines_at, entries_by, entries_before}
use Rattle.forms.specs.Members.{members_at, EntriesThen}
use Rattle.forms.specs.Form.{text_of, asks_by, sheet_of, Walked}
use Rattle.sheet.specs.declared.Cursor.{Cursor}
use Rattle.sheet.specs.declared.Place.{Place}
use Rattle.sheet.specs.declared.Read.{Read}
use Rattle.sheet.specs.declared.Sides.{Sides}
use Rattle.forms.specs.declared.form.Form.TheVariants as form
use Rattle.forms.specs.declared.form.Solver.{Solver}
use Rattle.sheet.proofs.LineLaws.{Unkeyed, keyed, unkeyed}
use Rattle.forms.proofs.PairLaws.{paired, stops, pairs_are, none_first, entries_then}
use Rattle.forms.proofs.MemberLaws.{no_member, member_then, onward, rest_of, from_member}

-- the parts of a pair that was read
same_both : {es fs : List Entry} {ls ks : List Text} → ◌≡◌ {A = Option (List Entry × List Text)} (Some (es, ls)) (Some (fs, ks)) → (es ≡ fs) × (ls ≡ ks)
same_both {es} {fs} {ls} {ks} e =
    let z : ◌≡◌ {A = List Entry × List Text} (es, ls) (fs, ks) = cc in
    (ap (λ (p : List Entry × List Text). p.0) z, ap (λ (p : List Entry × List Text). p.1) z)

-- ---- pairs of lines

-- the pairs `left`, `right` as those of two keys
pub pairs_by : (s : Text) (at : ℕ) → (lines_at s at >>= pairs) ≡ (lines_at s at >>= entries_by (bytes "left=") (bytes "right="))
pairs_by s at = go (lines_at s at)
  where
    go : (o : Option (List Text)) → (o >>= pairs) ≡ (o >>= entries_by (bytes "left=") (bytes "right="))
    go None = refl
    go (Some ls) = pairs_are ls

module _ (first second s : Text) (at : ℕ) (es : List Entry) (rest : List Text) (h : (lines_at s at >>= entries_by first second) ≡ Some (es, rest)) where
  -- two lines that are found are the first pair
  pub two_there : (p : Read Sides) → Some p ≡ two_lines_at first second s at
      → (fs : List Entry) × (es ≡ (text_of s p.value.left, text_of s p.value.right) ∷ fs) × ((lines_at s p.next.at >>= entries_by first second) ≡ Some (fs, rest))
  two_there p e = go (lines_at s p.next.at >>= entries_by first second) refl (sym (entries_then first second s at (paired first second s at p e)) ∙ h)
    where
      go : (o : Option (List Entry × List Text)) → (lines_at s p.next.at >>= entries_by first second) ≡ o
          → (o >>= entries_before ((text_of s p.value.left, text_of s p.value.right) ∷ [])) ≡ Some (es, rest)
          → (fs : List Entry) × (es ≡ (text_of s p.value.left, text_of s p.value.right) ∷ fs) × ((lines_at s p.next.at >>= entries_by first second) ≡ Some (fs, rest))
      go None k g = cc
      go (Some (fs, ls)) k g = let b = same_both g in (fs, sym b.0, k ∙ ap (λ (ls : List Text). Some (fs, ls)) b.1)

  -- where none is found there is no pair more
  pub two_end : None ≡ two_lines_at first second s at → (es ≡ []) × (lines_at s at ≡ Some rest)
  two_end e = ⊎_elim (λ u. go (lines_at s at) refl u h) (λ z. absurd (none_ne_some _ (sym z ∙ h))) (stops first second s at e)
    where
      go : (o : Option (List Text)) → lines_at s at ≡ o → Unkeyed first o → (o >>= entries_by first second) ≡ Some (es, rest) → (es ≡ []) × (lines_at s at ≡ Some rest)
      go None k u g = cc
      go (Some ls) k u g =
          let b = same_both (sym g ∙ none_first first second ls u) in
          (b.0, k ∙ ap Some (sym b.1))

-- the lines where all pairs were walked over are those after them
pub walked_rest : (s : Text) (at c : ℕ) → Walked s at c → (es : List Entry) (rest : List Text) → (lines_at s at >>= pairs) ≡ Some (es, rest) → lines_at s c ≡ Some rest
walked_rest s at c w es rest h = go (lines_at s c >>= entries_by (bytes "left=") (bytes "right=")) refl (sym w.walk.chain ∙ sym (pairs_by s at) ∙ h)
  where
    go : (o : Option (List Entry × List Text)) → (lines_at s c >>= entries_by (bytes "left=") (bytes "right=")) ≡ o → (o >>= entries_before w.walk.es) ≡ Some (es, rest) → lines_at s c ≡ Some rest
    go None k g = cc
    go (Some (fs, ls)) k g = (two_end (bytes "left=") (bytes "right=") s c fs ls k w.stops).1 ∙ ap Some (same_both g).1

abbrev by_first : Option Text → Option (List Entry × List Text) → (Text → Option (List Entry × List Text)) → Option (List Entry × List Text)
by_first o a f = elim o [ None ↦ a | Some v ↦ f v ]

-- the lines after all pairs begin with none
entries_left : (first second : Text) (ls : List Text) (es : List Entry) (rest : List Text) → entries_by first second ls ≡ Some (es, rest) → Unkeyed first (Some rest)
unfolding entries_by
entries_left first second [] es rest e = subst (λ (l : List Text). Unkeyed first (Some l)) (same_both e).1 tt
entries_left first second (l ∷ []) es rest e = go (after_key first l) refl e
  where
    go : (o : Option Text) → after_key first l ≡ o → by_first o (Some ([], l ∷ [])) (λ v. None) ≡ Some (es, rest) → Unkeyed first (Some rest)
    go None k e = subst (λ (l : List Text). Unkeyed first (Some l)) (same_both e).1 k
    go (Some v) k e = cc
entries_left first second (l ∷ r ∷ ls) es rest e = go (after_key first l) refl e (entries_left first second ls)
  where
    more : (v w : Text) (o : Option (List Entry × List Text)) → entries_by first second ls ≡ o → with_entry (v, w) o ≡ Some (es, rest)
        → ((fs : List Entry) (rest : List Text) → entries_by first second ls ≡ Some (fs, rest) → Unkeyed first (Some rest)) → Unkeyed first (Some rest)
    more v w None k e ih = cc
    more v w (Some (fs, ks)) k e ih = ih fs rest (k ∙ ap (λ (ls : List Text). Some (fs, ls)) (same_both e).1)

    second_line : (v : Text) (o : Option Text) → (o >>= λ w. with_entry (v, w) (entries_by first second ls)) ≡ Some (es, rest)
        → ((fs : List Entry) (rest : List Text) → entries_by first second ls ≡ Some (fs, rest) → Unkeyed first (Some rest)) → Unkeyed first (Some rest)
    second_line v None e ih = cc
    second_line v (Some w) e ih = more v w (entries_by first second ls) refl e ih

    go : (o : Option Text) → after_key first l ≡ o
        → by_first o (Some ([], l ∷ r ∷ ls)) (λ v. after_key second r >>= λ w. with_entry (v, w) (entries_by first second ls)) ≡ Some (es, rest)
        → ((fs : List Entry) (rest : List Text) → entries_by first second ls ≡ Some (fs, rest) → Unkeyed first (Some rest)) → Unkeyed first (Some rest)
    go None k e ih = subst (λ (l : List Text). Unkeyed first (Some l)) (same_both e).1 k
    go (Some v) k e ih = second_line v (after_key second r) e ih

-- ---- members

-- the first member: its value, its entries, the lines after them, and the members there
pub record FirstMember (s : Text) (value : Text) (next : ℕ) (ms : List Member) : Type 0 where
  pub es : List Entry
  pub rest : List Text
  pub others : List Member
  pub members : ms ≡ (value, es) ∷ others
  pub entries : EntriesThen s next es rest
  pub distinct : distinct_keys es [] ≡ true
  pub later : none_waiting (members_from rest) ≡ Some others

module _ (s : Text) (at : ℕ) (ms : List Member) (h : members_at s at ≡ Some ms) where
  pub member_end : None ≡ value_at s (bytes "member=") at → ms ≡ []
  unfolding members_at
  member_end e = go (lines_at s at) (unkeyed s (bytes "member=") at e) h
    where
      go : (o : Option (List Text)) → Unkeyed (bytes "member=") o → (o >>= λ ls. none_waiting (members_from ls)) ≡ Some ms → ms ≡ []
      go None u g = cc
      go (Some []) u g = unfold members_from in cc
      go (Some (l ∷ ls)) u g = let y = no_member l ls u in cc

  pub member_next : (l : Read Place) → Some l ≡ value_at s (bytes "member=") at → FirstMember s (text_of s l.value) l.next.at ms
  member_next l e =
      let v = text_of s l.value in
      let q = sym (from_member s at l (keyed s (bytes "member=") at l e)) ∙ h in
      let (ls, a, b) = bound (lines_at s l.next.at) (λ ls. entries_by (bytes "key=") (bytes "value=") ls >>= onward v) ms q in
      let (p, c, d) = bound (entries_by (bytes "key=") (bytes "value=") ls) (onward v) ms b in
      let k = entries_left (bytes "key=") (bytes "value=") ls p.0 p.1 c in
      let g : member_then v p.0 (none_waiting (members_from p.1)) ≡ Some ms = sym (rest_of v p.0 p.1 k) ∙ d in
      let (u, i, j) = bound (guard (distinct_keys p.0 [])) (λ u. none_waiting (members_from p.1) >>= λ ms. Some ((v, p.0) ∷ ms)) ms g in
      let (os, w, x) = bound (none_waiting (members_from p.1)) (λ ms. Some ((v, p.0) ∷ ms)) ms j in
      record {
        es = p.0;
        rest = p.1;
        others = os;
        members = (let z : ms ≡ (v, p.0) ∷ os = cc in z);
        entries = ap (λ (o : Option (List Text)). o >>= entries_by (bytes "key=") (bytes "value=")) a ∙ c;
        distinct = guarded (distinct_keys p.0 []) u i;
        later = w;
      }

-- the members where the entries of the first one end
pub members_later : (s : Text) (c : ℕ) (rest : List Text) (ms : List Member) → lines_at s c ≡ Some rest → none_waiting (members_from rest) ≡ Some ms → members_at s c ≡ Some ms
unfolding members_at
members_later s c rest ms e h = ap (λ (o : Option (List Text)). o >>= λ ls. none_waiting (members_from ls)) e ∙ h

pub lines_members : (s : Text) (c : ℕ) (rest : List Text) (ms : List Member) → lines_at s c ≡ Some rest → members_at s c ≡ Some ms → none_waiting (members_from rest) ≡ Some ms
unfolding members_at
lines_members s c rest ms e h = sym (ap (λ (o : Option (List Text)). o >>= λ ls. none_waiting (members_from ls)) e) ∙ h

-- ---- what a form stands for

ended_as : (ls : List Text) (x sheet : Sheet) → at_end ls x ≡ Some sheet → (ls ≡ []) × (sheet ≡ x)
ended_as [] x sheet e = (refl, (let z : sheet ≡ x = cc in z))
ended_as (l ∷ ls) x sheet e = cc

solving_pairs : (s : Text) (at : ℕ) (ask : List Entry → Sheet) (sheet : Sheet) → (lines_at s at >>= λ ls. pairs ls >>= λ p. at_end p.1 (ask p.0)) ≡ Some sheet
    → (ps : List Entry) × (sheet ≡ ask ps) × ((lines_at s at >>= pairs) ≡ Some (ps, []))
solving_pairs s at ask sheet e =
    let (ls, a, b) = bound (lines_at s at) (λ ls. pairs ls >>= λ p. at_end p.1 (ask p.0)) sheet e in
    let (p, c, d) = bound (pairs ls) (λ p. at_end p.1 (ask p.0)) sheet b in
    let (g, h) = ended_as p.1 (ask p.0) sheet d in
    (p.0, h, ap (λ (o : Option (List Text)). o >>= pairs) a ∙ c ∙ ap (λ (ls : List Text). Some (p.0, ls)) g)

pub solved_pairs : (s : Text) (v : Solver) (fuel : ℕ) (c : Cursor) (sheet : Sheet) → sheet_of s (form.Solve v fuel c) ≡ Some sheet
    → (ps : List Entry) × (sheet ≡ asks_by v fuel ps) × ((lines_at s c.at >>= pairs) ≡ Some (ps, []))
unfolding sheet_of
solved_pairs s v fuel c sheet e = solving_pairs s c.at (asks_by v fuel) sheet e

pub cover_parts : (s : Text) (c d : Cursor) (sheet : Sheet) → sheet_of s (form.Cover c d) ≡ Some sheet
    → (ps : List Entry) × (rest : List Text) × (ms : List Member) × (sheet ≡ asks_cover ps ms) × ((lines_at s c.at >>= pairs) ≡ Some (ps, rest)) × (members_at s d.at ≡ Some ms)
unfolding sheet_of
cover_parts s c d sheet e =
    let (ls, a, b) = bound (lines_at s c.at) (λ ls. pairs ls >>= λ p. members_at s d.at >>= λ ms. Some (asks_cover p.0 ms)) sheet e in
    let (p, g, h) = bound (pairs ls) (λ p. members_at s d.at >>= λ ms. Some (asks_cover p.0 ms)) sheet b in
    let (ms, i, j) = bound (members_at s d.at) (λ ms. Some (asks_cover p.0 ms)) sheet h in
    (p.0, p.1, ms, (let z : sheet ≡ asks_cover p.0 ms = cc in z), ap (λ (o : Option (List Text)). o >>= pairs) a ∙ g, i)

pub sound_member : (s : Text) (t : Place) (c : Cursor) (sheet : Sheet) → sheet_of s (form.Sound t c) ≡ Some sheet
    → (m : Member) × (sheet ≡ asks_sound (text_of s t) m) × (members_at s c.at ≡ Some (m ∷ []))
unfolding sheet_of
sound_member s t c sheet e =
    let (ms, a, b) = bound (members_at s c.at) (λ ms. one_member ms >>= λ m. Some (asks_sound (text_of s t) m)) sheet e in
    let (m, g, h) = bound (one_member ms) (λ m. Some (asks_sound (text_of s t) m)) sheet b in
    (m, (let z : sheet ≡ asks_sound (text_of s t) m = cc in z), a ∙ ap Some (the_member ms m g))

pub complete_members : (s : Text) (t : Place) (c : Cursor) (sheet : Sheet) → sheet_of s (form.Complete t c) ≡ Some sheet
    → (ms : List Member) × (sheet ≡ asks_complete (text_of s t) ms) × (members_at s c.at ≡ Some ms)
unfolding sheet_of
complete_members s t c sheet e =
    let (ms, a, b) = bound (members_at s c.at) (λ ms. Some (asks_complete (text_of s t) ms)) sheet e in
    (ms, (let z : sheet ≡ asks_complete (text_of s t) ms = cc in z), a)
