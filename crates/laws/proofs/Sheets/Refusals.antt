-- The call gives each refusal exactly on its condition, and an answer in all other cases; what it leaves in the output and the work
-- area, byte by byte and word by word.
use mathlib.Core.Path.{◌≡◌, refl, sym, subst, ap, ◌∙◌}
use mathlib.Core.Bool.{Bool, true, false, true≢false}
use mathlib.Core.List.{List, [], ◌∷◌, ◌++◌}
use mathlib.Core.Logic.{◌↔◌, ◌⊎◌, inl, inr}
use Rattle.std.specs.Prelude.{Option, Some, None}
use Prim.Native.Nat.{ℕ, zero, suc, ◌+◌, ◌-◌, ◌≤◌, ◌<◌}
use native.Mathlib.Omega.{arith}
use lib.Dec.{leb, eqb}
use lib.ListN.{length, get_or, drop, replicate, length-append, length-drop, length-replicate, get_or-replicate, get_or-append}
use lib.Seq.{get_or-append-add, get_or-drop}
use Rattle.rules.specs.Bytes.{Text}
use Rattle.rules.specs.Text.{within}
use Rattle.rules.specs.Names.{all}
use Rattle.rules.specs.Sheet.{Sheet, read_sheet, words_needed}
use Rattle.rules.specs.Answer.{answer_of}
use Rattle.rules.specs.declared.Refusal.TheVariants.{TooLong, ForeignByte, LineOutOfPlace, UnreadableTerm, ShortWorkArea, ShortOutput}
use Rattle.rules.specs.RefusalNumbers.{number_for}
use Rattle.rules.specs.Call.{Reply, refused, passed, refusal_number, plain, admitted, settled, call, written, output_after, work_after}
use Rattle.rules.specs.Refusals.{Allowed, Screened, Admitted, Outcome, too_long, foreign_byte, line_out_of_place, short_work_area, unreadable_term, short_output, answered, Overwritten, KeepsWork, Cleared}
use Rattle.rules.specs.SheetLines.{IsSheet}
use Rattle.laws.proofs.Basics.Tests.{and_left, and_right, and_both, and_split, or_cases, or_left, or_right, eqb_true, eqb_self, leb_true, leb_false, true_leb, false_leb}
use Rattle.laws.proofs.Sheets.Forms.{reads_form, unread_form}
use Rattle.laws.proofs.Sheets.Unread.{sheet_unread}

-- Bytes

-- a test of all bytes, index by index
module _ (t : ℕ → Bool) where
  pub all_at : (s : Text) → all t s ≡ true → (p : ℕ) → p < length s → t (get_or s p 0) ≡ true
  unfolding all
  all_at [] e p h = absurd (omega arith)
  all_at (b ∷ s) e zero h = and_left (t b) (all t s) e
  all_at (b ∷ s) e (suc p) h = all_at s (and_right (t b) (all t s) e) p (omega arith)

  at_all : (s : Text) → ((p : ℕ) → p < length s → t (get_or s p 0) ≡ true) → all t s ≡ true
  unfolding all
  at_all [] h = refl
  at_all (b ∷ s) h = and_both (t b) (all t s) (h 0 (omega arith)) (at_all s (λ p k. h (suc p) (omega arith)))

  not_at : (s : Text) → all t s ≡ false → (p : ℕ) × (p < length s) × (t (get_or s p 0) ≡ false)
  unfolding all
  not_at [] e = absurd (true≢false e)
  not_at (b ∷ s) e = go (t b) refl (not_at s)
    where
      go : (c : Bool) → t b ≡ c → (all t s ≡ false → (p : ℕ) × (p < length s) × (t (get_or s p 0) ≡ false))
          → (p : ℕ) × (p < length (b ∷ s)) × (t (get_or (b ∷ s) p 0) ≡ false)
      go false k f = (0, omega arith, k)
      go true k f = let (p, l, j) = f (rw k at e) in (suc p, omega arith, j)

pub plain_allowed : (b : ℕ) → plain b ≡ true → Allowed b
plain_allowed b e = go (or_cases (eqb b 10) (within 32 126 b) e)
  where
    go : (eqb b 10 ≡ true) ⊎ (within 32 126 b ≡ true) → Allowed b
    go (inl h) = inl (eqb_true b 10 h)
    go (inr h) = let (l, r) = and_split (leb 32 b) (leb b 126) h in inr (leb_true 32 b l, leb_true b 126 r)

pub allowed_plain : (b : ℕ) → Allowed b → plain b ≡ true
allowed_plain b (inl e) = or_left (eqb b 10) (within 32 126 b) (rw e (eqb_self 10))
allowed_plain b (inr (l, r)) = rw (true_leb 32 b l, true_leb b 126 r) (or_right (eqb b 10))

pub all_plain : {s : Text} → Screened s → all plain s ≡ true
all_plain {s} h = at_all plain s (λ p k. allowed_plain (get_or s p 0) (h.allowed p k))

not_plain : (s : Text) (p : ℕ) → p < length s → ¬ Allowed (get_or s p 0) → all plain s ≡ false
not_plain s p h k = go (all plain s) refl
  where
    go : (c : Bool) → all plain s ≡ c → c ≡ false
    go true e = absurd (k (plain_allowed (get_or s p 0) (all_at plain s e p h)))
    go false e = refl

-- What the relation says is what the call gives

module _ (s : Text) (words : ℕ) where
  pub refuses_too_long : 65536 < length s → admitted s words ≡ refused (number_for TooLong)
  unfolding admitted
  refuses_too_long h = rw (false_leb (length s) 65536 h)

  pub refuses_foreign_byte : length s ≤ 65536 → all plain s ≡ false → admitted s words ≡ refused (number_for ForeignByte)
  unfolding admitted
  refuses_foreign_byte h e = rw (true_leb (length s) 65536 h, e)

  refuses_line_out_of_place : Screened s → read_sheet s ≡ None → admitted s words ≡ refused (number_for LineOutOfPlace)
  unfolding admitted
  refuses_line_out_of_place h e = rw (true_leb (length s) 65536 h.short, all_plain h, e)

  refuses_short_work_area : (sheet : Sheet) → Screened s → read_sheet s ≡ Some sheet → words < words_needed s sheet → admitted s words ≡ refused (number_for ShortWorkArea)
  unfolding admitted
  refuses_short_work_area sheet h e k = rw (true_leb (length s) 65536 h.short, all_plain h, e, false_leb (words_needed s sheet) words k)

  pub admits : (sheet : Sheet) → Admitted s words sheet → admitted s words ≡ passed sheet
  unfolding admitted
  admits sheet h = rw (true_leb (length s) 65536 h.screened.short, all_plain h.screened, (reads_form s sheet).1 h.form, true_leb (words_needed s sheet) words h.enough)

module _ (s : Text) (words room : ℕ) where
  -- a refusal from the sheet and the number of words ends the call
  ends : (n : ℕ) → admitted s words ≡ refused n → call s words room ≡ refused n
  unfolding call
  ends n e = rw e

  goes_on : (sheet : Sheet) (r : Reply Text) → Admitted s words sheet → settled sheet room ≡ r → call s words room ≡ r
  unfolding call
  goes_on sheet r h e = rw (admits s words sheet h) e

  refuses_unreadable_term : (sheet : Sheet) → answer_of sheet ≡ None → settled sheet room ≡ refused (number_for UnreadableTerm)
  unfolding settled
  refuses_unreadable_term sheet e = rw e

  refuses_short_output : (sheet : Sheet) (answer : Text) → answer_of sheet ≡ Some answer → room < length answer → settled sheet room ≡ refused (number_for ShortOutput)
  unfolding settled
  refuses_short_output sheet answer e h = rw (e, false_leb (length answer) room h)

  answers : (sheet : Sheet) (answer : Text) → answer_of sheet ≡ Some answer → length answer ≤ room → settled sheet room ≡ passed answer
  unfolding settled
  answers sheet answer e h = rw (e, true_leb (length answer) room h)

  gives : {r : Reply Text} → Outcome s words room r → call s words room ≡ r
  gives (too_long h) = ends (number_for TooLong) (refuses_too_long s words h)
  gives (foreign_byte h p k a) = ends (number_for ForeignByte) (refuses_foreign_byte s words h (not_plain s p k a))
  gives (line_out_of_place h e) = ends (number_for LineOutOfPlace) (refuses_line_out_of_place s words h ((unread_form s).1 e))
  gives (short_work_area {sheet} h e k) = ends (number_for ShortWorkArea) (refuses_short_work_area s words sheet h ((reads_form s sheet).1 e) k)
  gives (unreadable_term {sheet} h e) = goes_on sheet (refused (number_for UnreadableTerm)) h (refuses_unreadable_term sheet ((sheet_unread sheet).1 e))
  gives (short_output {sheet} {answer} h e k) = goes_on sheet (refused (number_for ShortOutput)) h (refuses_short_output sheet answer e k)
  gives (answered {sheet} {answer} h e k) = goes_on sheet (passed answer) h (answers sheet answer e k)

  -- One of the seven cases holds

  abbrev Settled : Type 0
  Settled = (r : Reply Text) × Outcome s words room r

  by_room : {sheet : Sheet} {answer : Text} → Admitted s words sheet → answer_of sheet ≡ Some answer → (b : Bool) → leb (length answer) room ≡ b → Settled
  by_room {answer = answer} h e true k = (passed answer, answered h e (leb_true (length answer) room k))
  by_room {answer = answer} h e false k = (refused (number_for ShortOutput), short_output h e (leb_false (length answer) room k))

  by_answer : {sheet : Sheet} → Admitted s words sheet → (o : Option Text) → answer_of sheet ≡ o → Settled
  by_answer {sheet} h None e = (refused (number_for UnreadableTerm), unreadable_term h ((sheet_unread sheet).0 e))
  by_answer h (Some answer) e = by_room h e (leb (length answer) room) refl

  by_words : {sheet : Sheet} → Screened s → IsSheet s sheet → (b : Bool) → leb (words_needed s sheet) words ≡ b → Settled
  by_words {sheet} h e true k =
      by_answer (record { screened = h; form = e; enough = leb_true (words_needed s sheet) words k }) (answer_of sheet) refl
  by_words {sheet} h e false k = (refused (number_for ShortWorkArea), short_work_area h e (leb_false (words_needed s sheet) words k))

  by_lines : Screened s → (o : Option Sheet) → read_sheet s ≡ o → Settled
  by_lines h None e = (refused (number_for LineOutOfPlace), line_out_of_place h ((unread_form s).0 e))
  by_lines h (Some sheet) e = by_words h ((reads_form s sheet).0 e) (leb (words_needed s sheet) words) refl

  by_bytes : length s ≤ 65536 → (b : Bool) → all plain s ≡ b → Settled
  by_bytes h true e =
      by_lines (record { short = h; allowed = λ p k. plain_allowed (get_or s p 0) (all_at plain s e p k) }) (read_sheet s) refl
  by_bytes h false e =
      let (p, k, f) = not_at plain s e in
      (refused (number_for ForeignByte), foreign_byte h p k (λ a. true≢false (sym (allowed_plain (get_or s p 0) a) ∙ f)))

  by_length : (b : Bool) → leb (length s) 65536 ≡ b → Settled
  by_length true e = by_bytes (leb_true (length s) 65536 e) (all plain s) refl
  by_length false e = (refused (number_for TooLong), too_long (leb_false (length s) 65536 e))

  holds : Outcome s words room (call s words room)
  holds = let (r, h) = by_length (leb (length s) 65536) refl in subst (Outcome s words room) (sym (gives h)) h

  pub call_outcome : (r : Reply Text) → (call s words room ≡ r) ↔ Outcome s words room r
  call_outcome r = (λ e. subst (Outcome s words room) e holds, gives)

  -- none of the six numbers is 0
  pub number_zero : (refusal_number (call s words room) ≡ 0) ↔ ((answer : Text) × (call s words room ≡ passed answer))
  number_zero = (λ e. go holds e (λ a i. (a, i)), λ z. ap refusal_number z.1)
    where
      go : {r : Reply Text} {P : Type 0} → Outcome s words room r → refusal_number r ≡ 0 → ((answer : Text) → r ≡ passed answer → P) → P
      go (too_long h) e f = absurd (omega arith)
      go (foreign_byte h p k a) e f = absurd (omega arith)
      go (line_out_of_place h i) e f = absurd (omega arith)
      go (short_work_area h i k) e f = absurd (omega arith)
      go (unreadable_term h i) e f = absurd (omega arith)
      go (short_output h i k) e f = absurd (omega arith)
      go (answered {answer = a} h i k) e f = f a refl

-- 1, 2, 3, 11 come from the sheet and the number of words

-- a number beyond 3 other than 11
pub other_number : (n : ℕ) → number_for LineOutOfPlace < n → ¬ (n ≡ number_for ShortWorkArea) → ¬ KeepsWork (refused n)
other_number n h d (inl k) = omega arith
other_number n h d (inr (inl k)) = omega arith
other_number n h d (inr (inr (inl k))) = omega arith
other_number n h d (inr (inr (inr k))) = d k

pub early : (s : Text) (words room : ℕ) {r : Reply Text} → Outcome s words room r → KeepsWork r → admitted s words ≡ refused (refusal_number r)
early s words room (too_long h) k = refuses_too_long s words h
early s words room (foreign_byte h p l a) k = refuses_foreign_byte s words h (not_plain s p l a)
early s words room (line_out_of_place h e) k = refuses_line_out_of_place s words h ((unread_form s).1 e)
early s words room (short_work_area {sheet} h e l) k = refuses_short_work_area s words sheet h ((reads_form s sheet).1 e) l
early s words room (unreadable_term h e) k = absurd (other_number (number_for UnreadableTerm) (omega arith) (λ i. omega arith) k)
early s words room (short_output h e l) k = absurd (other_number (number_for ShortOutput) (omega arith) (λ i. omega arith) k)
early s words room (answered h e l) k = absurd k

-- What is left

-- a list of n elements put over the first n of another
module _ (n : ℕ) (front list : List ℕ) (e : length front ≡ n) (h : n ≤ length list) where
  over_length : length (front ++ drop n list) ≡ length list
  over_length = simp (length-append, length-drop) (omega arith)

  over_first : (p : ℕ) → p < n → get_or (front ++ drop n list) p 0 ≡ get_or front p 0
  over_first p k = get_or-append front (drop n list) 0 p (omega arith)

  over_later : (p : ℕ) → n ≤ p → get_or (front ++ drop n list) p 0 ≡ get_or list p 0
  over_later p k =
      let i : length front + (p - n) ≡ p = omega arith in
      let j : n + (p - n) ≡ p = omega arith in
      subst (λ (q : ℕ). get_or (front ++ drop n list) q 0 ≡ get_or list p 0) i
      (get_or-append-add front (drop n list) (p - n) 0 ∙ get_or-drop n list (p - n) 0 ∙ rw j)

-- a text put over the first bytes of an output
pub overwrites : (answer output : List ℕ) → length answer ≤ length output → Overwritten answer output (answer ++ drop (length answer) output)
overwrites answer output f = record {
  fits = f;
  same_length = over_length (length answer) answer output refl f;
  first = over_first (length answer) answer output refl f;
  later = over_later (length answer) answer output refl f;
}

module _ (s : Text) (words : ℕ) (output : List ℕ) where
  pub refusal_keeps : (n : ℕ) → call s words (length output) ≡ refused n
      → (written (call s words (length output)) ≡ 0) × (output_after s words output ≡ output)
  unfolding output_after
  refusal_keeps n e = (rw e, rw e)

  pub answer_writes : (answer : Text) → call s words (length output) ≡ passed answer
      → (written (call s words (length output)) ≡ length answer) × Overwritten answer output (output_after s words output)
  unfolding output_after
  answer_writes answer e = (rw e, rw e (go ((call_outcome s words (length output) (passed answer)).0 e)))
    where
      go : Outcome s words (length output) (passed answer) → Overwritten answer output (answer ++ drop (length answer) output)
      go (answered h k f) = overwrites answer output f

clears : (n : ℕ) (work : List ℕ) → n ≤ length work → Cleared n work (replicate n 0 ++ drop n work)
clears n work h =
    let zeros : List ℕ = replicate n 0 in
    let e : length zeros ≡ n = length-replicate n 0 in
    record {
      enough = h;
      same_length = over_length n zeros work e h;
      zero = λ p k. over_first n zeros work e h p k ∙ get_or-replicate n p 0 0 k;
      later = over_later n zeros work e h;
    }

module _ (s : Text) (work : List ℕ) where
  pub keeps : (n : ℕ) → admitted s (length work) ≡ refused n → work_after s work ≡ work
  unfolding work_after
  keeps n e = rw e

  pub clears_needed : {sheet : Sheet} → Admitted s (length work) sheet → (h : Sheet) × (read_sheet s ≡ Some h) × Cleared (words_needed s h) work (work_after s work)
  unfolding work_after
  clears_needed {sheet} a = (sheet, (reads_form s sheet).1 a.form, rw (admits s (length work) sheet a) (clears (words_needed s sheet) work a.enough))

  module _ (room : ℕ) where
    -- after 1, 2, 3, 11 the work area is unchanged
    pub work_kept : KeepsWork (call s (length work) room) → work_after s work ≡ work
    work_kept k = keeps (refusal_number (call s (length work) room)) (early s (length work) room (holds s (length work) room) k)

    -- after every other call the needed words are zero
    pub needed_cleared : ¬ KeepsWork (call s (length work) room)
        → (sheet : Sheet) × (read_sheet s ≡ Some sheet) × Cleared (words_needed s sheet) work (work_after s work)
    needed_cleared = go (holds s (length work) room)
      where
        go : {r : Reply Text} → Outcome s (length work) room r → ¬ KeepsWork r
            → (sheet : Sheet) × (read_sheet s ≡ Some sheet) × Cleared (words_needed s sheet) work (work_after s work)
        go (too_long h) k = absurd (k (inl refl))
        go (foreign_byte h p l a) k = absurd (k (inr (inl refl)))
        go (line_out_of_place h e) k = absurd (k (inr (inr (inl refl))))
        go (short_work_area h e l) k = absurd (k (inr (inr (inr refl))))
        go (unreadable_term h e) k = clears_needed h
        go (short_output h e l) k = clears_needed h
        go (answered h e l) k = clears_needed h
