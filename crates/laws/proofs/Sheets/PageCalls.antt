-- The second call: each refusal exactly on its condition and the answer laid out in all other cases; what it leaves in the output and
-- the work area; what its pages read as.
use mathlib.Core.Path.{◌≡◌, refl, sym, subst, ap, ◌∙◌}
use mathlib.Core.Bool.{Bool, true, false}
use mathlib.Core.List.{List, ◌++◌}
use mathlib.Core.Logic.{◌↔◌, inl, inr}
use Rattle.std.specs.Prelude.{Some, None}
use Prim.Native.Nat.{ℕ, ◌*◌, ◌≤◌, ◌<◌}
use native.Mathlib.Omega.{arith}
use lib.Dec.{leb}
use lib.ListN.{length, drop}
use Rattle.rules.specs.Bytes.{Text}
use Rattle.rules.specs.Sheet.{Sheet, read_sheet, words_needed}
use Rattle.rules.specs.Answer.{answer_of}
use Rattle.rules.specs.declared.Refusal.TheVariants.{UnreadableTerm, ShortOutput, TooManyPages}
use Rattle.rules.specs.RefusalNumbers.{number_for}
use Rattle.rules.specs.Call.{Reply, refused, passed, refusal_number, written, admitted, call, work_after}
use Rattle.rules.specs.Refusals.{Admitted, Outcome, too_long, foreign_byte, line_out_of_place, short_work_area, unreadable_term, short_output, answered, Overwritten, KeepsWork, Cleared}
use Rattle.rules.specs.Page.{page, page_count, read_page}
use Rattle.rules.specs.PageCall.{page_settled, page_call, page_output_after, PageOutcome, as_first, too_many_pages, short_for_pages, laid_out}
use Rattle.laws.proofs.Basics.Tests.{leb_true, leb_false, true_leb, false_leb}
use Rattle.laws.proofs.Sheets.Unread.{sheet_unread}
use Rattle.laws.proofs.Sheets.Pages.{page_read, page_length}
use Rattle.laws.proofs.Sheets.PageAnswers.{answer_columned}
use Rattle.laws.proofs.Sheets.Refusals.{call_outcome, admits, early, other_number, overwrites, keeps, clears_needed}

module _ (s : Text) (words room : ℕ) where
  -- What the relation says is what the second call gives

  ends : (n : ℕ) → admitted s words ≡ refused n → page_call s words room ≡ refused n
  unfolding page_call
  ends n e = rw e

  module _ (sheet : Sheet) (a : Admitted s words sheet) where
    page_unread : answer_of sheet ≡ None → page_call s words room ≡ refused (number_for UnreadableTerm)
    unfolding page_call page_settled
    page_unread e = rw (admits s words sheet a, e)

    module _ (answer : Text) (e : answer_of sheet ≡ Some answer) where
      page_too_many : 9999 < page_count answer → page_call s words room ≡ refused (number_for TooManyPages)
      unfolding page_call page_settled
      page_too_many h = rw (admits s words sheet a, e, false_leb (page_count answer) 9999 h)

      page_short : page_count answer ≤ 9999 → room < length (page answer) → page_call s words room ≡ refused (number_for ShortOutput)
      unfolding page_call page_settled
      page_short h k = rw (admits s words sheet a, e, true_leb (page_count answer) 9999 h, false_leb (length (page answer)) room k)

      lays_out : page_count answer ≤ 9999 → length (page answer) ≤ room → page_call s words room ≡ passed (page answer)
      unfolding page_call page_settled
      lays_out h k = rw (admits s words sheet a, e, true_leb (page_count answer) 9999 h, true_leb (length (page answer)) room k)

  gives : {r : Reply Text} → PageOutcome s words room r → page_call s words room ≡ r
  gives (as_first {n} (too_long h) d) = ends n (early s words room (too_long h) (inl refl))
  gives (as_first {n} (foreign_byte h p k a) d) = ends n (early s words room (foreign_byte h p k a) (inr (inl refl)))
  gives (as_first {n} (line_out_of_place h e) d) = ends n (early s words room (line_out_of_place h e) (inr (inr (inl refl))))
  gives (as_first {n} (short_work_area h e k) d) = ends n (early s words room (short_work_area h e k) (inr (inr (inr refl))))
  gives (as_first (unreadable_term {sheet} h e) d) = page_unread sheet h ((sheet_unread sheet).1 e)
  gives (as_first (short_output h e k) d) = absurd (d refl)
  gives (too_many_pages {sheet} {answer} h e k) = page_too_many sheet h answer e k
  gives (short_for_pages {sheet} {answer} h e k l) = page_short sheet h answer e k l
  gives (laid_out {sheet} {answer} h e k p l) = lays_out sheet h answer e k (subst (λ (t : Text). length t ≤ room) p l) ∙ ap passed (sym p)

  -- One of its cases holds

  abbrev Settled : Type 0
  Settled = (r : Reply Text) × PageOutcome s words room r

  module _ {sheet : Sheet} {answer : Text} (h : Admitted s words sheet) (e : answer_of sheet ≡ Some answer) where
    by_room : page_count answer ≤ 9999 → (b : Bool) → leb (length (page answer)) room ≡ b → Settled
    by_room k true l = (passed (page answer), laid_out h e k refl (leb_true (length (page answer)) room l))
    by_room k false l = (refused (number_for ShortOutput), short_for_pages h e k (leb_false (length (page answer)) room l))

    by_pages : (b : Bool) → leb (page_count answer) 9999 ≡ b → Settled
    by_pages true k = by_room (leb_true (page_count answer) 9999 k) (leb (length (page answer)) room) refl
    by_pages false k = (refused (number_for TooManyPages), too_many_pages h e (leb_false (page_count answer) 9999 k))

  by_first : {r : Reply Text} → Outcome s words room r → Settled
  by_first (too_long h) = (_, as_first (too_long h) (λ i. omega arith))
  by_first (foreign_byte h p k a) = (_, as_first (foreign_byte h p k a) (λ i. omega arith))
  by_first (line_out_of_place h e) = (_, as_first (line_out_of_place h e) (λ i. omega arith))
  by_first (short_work_area h e k) = (_, as_first (short_work_area h e k) (λ i. omega arith))
  by_first (unreadable_term h e) = (_, as_first (unreadable_term h e) (λ i. omega arith))
  by_first (short_output {answer = answer} h e k) = by_pages h e (leb (page_count answer) 9999) refl
  by_first (answered {answer = answer} h e k) = by_pages h e (leb (page_count answer) 9999) refl

  holds : PageOutcome s words room (page_call s words room)
  holds =
      let (r, h) = by_first ((call_outcome s words room (call s words room)).0 refl) in
      subst (PageOutcome s words room) (sym (gives h)) h

  pub page_outcome : (r : Reply Text) → (page_call s words room ≡ r) ↔ PageOutcome s words room r
  page_outcome r = (λ e. subst (PageOutcome s words room) e holds, gives)

  -- no refusal number is 0
  pub page_number : (refusal_number (page_call s words room) ≡ 0) ↔ ((pages : Text) × (page_call s words room ≡ passed pages))
  page_number = (λ e. go holds e (λ a i. (a, i)), λ z. ap refusal_number z.1)
    where
      first : {n : ℕ} → Outcome s words room (refused n) → ¬ (n ≡ 0)
      first (too_long h) e = omega arith
      first (foreign_byte h p k a) e = omega arith
      first (line_out_of_place h i) e = omega arith
      first (short_work_area h i k) e = omega arith
      first (unreadable_term h i) e = omega arith
      first (short_output h i k) e = omega arith

      go : {r : Reply Text} {P : Type 0} → PageOutcome s words room r → refusal_number r ≡ 0 → ((pages : Text) → r ≡ passed pages → P) → P
      go (as_first o d) e f = absurd (first o e)
      go (too_many_pages h i k) e f = absurd (omega arith)
      go (short_for_pages h i k l) e f = absurd (omega arith)
      go (laid_out {pages = pages} h i k p l) e f = f pages refl

  -- pages are the first call's answer laid out; read back, they are that answer
  pub page_answer : (pages : Text) → page_call s words room ≡ passed pages
      → (answer : Text) × (call s words (length answer) ≡ passed answer) × (pages ≡ page answer) × (read_page pages ≡ answer)
      × (length pages ≡ 3650 * page_count answer)
  page_answer pages e = go ((page_outcome (passed pages)).0 e)
    where
      go : {pages : Text} → PageOutcome s words room (passed pages) → (answer : Text) × (call s words (length answer) ≡ passed answer) × (pages ≡ page answer)
          × (read_page pages ≡ answer) × (length pages ≡ 3650 * page_count answer)
      go (laid_out {sheet} {answer} h i k p l) =
          let c = answer_columned sheet answer i in
          (answer, (call_outcome s words (length answer) (passed answer)).1 (answered h i (omega arith)), p, ap read_page p ∙ page_read answer c, ap length p ∙ page_length answer c)

-- What is left

module _ (s : Text) (words : ℕ) (output : List ℕ) where
  pub page_refusal_keeps : (n : ℕ) → page_call s words (length output) ≡ refused n
      → (written (page_call s words (length output)) ≡ 0) × (page_output_after s words output ≡ output)
  unfolding page_output_after
  page_refusal_keeps n e = (rw e, rw e)

  pub page_answer_writes : (pages : Text) → page_call s words (length output) ≡ passed pages
      → (written (page_call s words (length output)) ≡ length pages) × Overwritten pages output (page_output_after s words output)
  unfolding page_output_after
  page_answer_writes pages e = (rw e, rw e (go ((page_outcome s words (length output) (passed pages)).0 e)))
    where
      go : {pages : Text} → PageOutcome s words (length output) (passed pages) → Overwritten pages output (pages ++ drop (length pages) output)
      go (laid_out {pages = pages} h i k p l) = overwrites pages output l

module _ (s : Text) (work : List ℕ) (room : ℕ) where
  -- after 1, 2, 3, 11 the work area is unchanged
  pub page_work_kept : KeepsWork (page_call s (length work) room) → work_after s work ≡ work
  page_work_kept = go (holds s (length work) room)
    where
      go : {r : Reply Text} → PageOutcome s (length work) room r → KeepsWork r → work_after s work ≡ work
      go (as_first {n} o d) k = keeps s work n (early s (length work) room o k)
      go (too_many_pages h i l) k = absurd (other_number (number_for TooManyPages) (omega arith) (λ j. omega arith) k)
      go (short_for_pages h i l m) k = absurd (other_number (number_for ShortOutput) (omega arith) (λ j. omega arith) k)
      go (laid_out h i l p m) k = absurd k

  -- after every other call the needed words are zero
  pub page_needed_cleared : ¬ KeepsWork (page_call s (length work) room)
      → (sheet : Sheet) × (read_sheet s ≡ Some sheet) × Cleared (words_needed s sheet) work (work_after s work)
  page_needed_cleared = go (holds s (length work) room)
    where
      go : {r : Reply Text} → PageOutcome s (length work) room r → ¬ KeepsWork r
          → (sheet : Sheet) × (read_sheet s ≡ Some sheet) × Cleared (words_needed s sheet) work (work_after s work)
      go (as_first (too_long h) d) k = absurd (k (inl refl))
      go (as_first (foreign_byte h p l a) d) k = absurd (k (inr (inl refl)))
      go (as_first (line_out_of_place h e) d) k = absurd (k (inr (inr (inl refl))))
      go (as_first (short_work_area h e l) d) k = absurd (k (inr (inr (inr refl))))
      go (as_first (unreadable_term h e) d) k = clears_needed s work h
      go (as_first (short_output h e l) d) k = absurd (d refl)
      go (too_many_pages h i l) k = clears_needed s work h
      go (short_for_pages h i l m) k = clears_needed s work h
      go (laid_out h i l p m) k = clears_needed s work h
