-- What a refusal, pages that are too many, pages that do not fit and pages that do give with an output; an answer written at their end.
use mathlib.Core.Path.{◌≡◌, refl, sym, ap, ◌∙◌}
use Prim.Native.Nat.{ℕ, ◌+◌, ◌-◌, ◌*◌, ◌<◌, ◌≤◌}
use Rattle.std.specs.Prelude.{Option, Some, None, Ok, Err}
use Rattle.std.specs.Option.{IsSome}
use mathlib.Core.List.{◌++◌, append_assoc}
use native.Mathlib.Omega.{arith}
use lib.ListN.{length, take, drop, length-append, length-take}
use lib.Seq.{take_at, drop_at}
use borrow.Author.Tests.{le-leb, lt-leb}
use Rattle.rules.specs.Bytes.{Text}
use Rattle.rules.specs.declared.Refusal.{Refusal}
use Rattle.rules.specs.declared.Refusal.TheVariants.{ShortOutput, TooManyPages}
use Rattle.rules.specs.RefusalNumbers.{number_for}
use Rattle.rules.specs.Call.{Reply, refused, passed, refusal_number, written, overwritten}
use Rattle.rules.specs.Page.{page, page_count}
use Rattle.laws.specs.Laying.{Columned}
use Rattle.laws.proofs.Sheets.Pages.{page_length}
use Rattle.sheet.specs.Lines.{part_of}
use Rattle.text.specs.Printing.{printed_over}
use Rattle.answers.specs.Settling.{Settles}
use Rattle.answers.proofs.Gives.{settles_refused}
use Rattle.printing.specs.Putting.{PutInto}
use Rattle.printing.specs.declared.output.Output.{Output}
use Rattle.printing.specs.declared.output.Pass.TheVariants.{Write}
use Rattle.printing.proofs.Lengths.{told_over}
use Rattle.pages.specs.Paging.{on_pages, Needs}
use Rattle.pages.specs.declared.Needed.{Needed}

pub refused_settles : (x : Refusal) (out : Text) → Settles (on_pages (refused (number_for x)) (length out)) out out (Err x)
unfolding on_pages
refused_settles x out = settles_refused x refl refl

module _ (t out : Text) where
  many_refused : 9999 < page_count t → on_pages (passed t) (length out) ≡ refused (number_for TooManyPages)
  unfolding on_pages
  many_refused h = rw (lt-leb (page_count t) 9999 h)

  pub many_settles : 9999 < page_count t → Settles (on_pages (passed t) (length out)) out out (Err TooManyPages)
  many_settles h = settles_refused TooManyPages (many_refused h) refl

  module _ (x : Needed) (c : Columned t) (h : Needs t (Some x)) where
    page_size : length (page t) ≡ 3650 * x.pages
    page_size = omega (arith, page_length t c, h.1)

    short_refused : length out < 3650 * x.pages → on_pages (passed t) (length out) ≡ refused (number_for ShortOutput)
    unfolding on_pages
    short_refused k = rw (le-leb (page_count t) 9999 (omega arith), lt-leb (length (page t)) (length out) (omega (arith, page_size)))

    pub short_settles : length out < 3650 * x.pages → Settles (on_pages (passed t) (length out)) out out (Err ShortOutput)
    short_settles k = settles_refused ShortOutput (short_refused k) refl

    pages_pass : 3650 * x.pages ≤ length out → on_pages (passed t) (length out) ≡ passed (page t)
    unfolding on_pages
    pages_pass k = rw (le-leb (page_count t) 9999 (omega arith), le-leb (length (page t)) (length out) (omega (arith, page_size)))

    pub pages_settle : {v : Text} → 3650 * x.pages ≤ length out → v ≡ page t ++ drop (3650 * x.pages) out
        → Settles (on_pages (passed t) (length out)) out v (Ok (3650 * x.pages))
    pages_settle {v} k e =
        let p = pages_pass k in
        record {
          number = sym (ap refusal_number p);
          count = sym page_size ∙ sym (ap written p);
          output = e ∙ ap (λ (i : ℕ). page t ++ drop i out) (sym page_size) ∙ sym (ap (λ (r : Reply Text). overwritten r out) p);
        }

-- An answer written up to the end of its pages

module _ (out t : Text) (at end : ℕ) (e : at + length t ≡ end) (h : end ≤ length out) where
  part_written : part_of at end (printed_over out at t) ≡ t
  unfolding printed_over
  part_written =
      ap (take (end - at)) (drop_at (take at out) (t ++ drop (at + length t) out) at (simp length-take (omega arith)))
      ∙ take_at t (drop (at + length t) out) (end - at) (omega arith)

  rest_written : drop end (printed_over out at t) ≡ drop end out
  unfolding printed_over
  rest_written =
      ap (drop end) (sym (append_assoc (take at out) t (drop (at + length t) out)))
      ∙ drop_at (take at out ++ t) (drop (at + length t) out) end (simp (length-append, length-take) (omega arith))
      ∙ ap (λ (n : ℕ). drop n out) e

module _ {a b : Output} {t : Text} {n : ℕ} {r : Option (Unit {0})} (p : PutInto a b t n r) (e : a.at + length t ≡ a.room) where
  pub put_fits : IsSome r
  put_fits = go r p
    where
      go : (r : Option (Unit {0})) → PutInto a b t n r → IsSome r
      go None q = absurd (omega (arith, told_over q.end, e))
      go (Some u) q = refl

  module _ {v : Text} (w : a.pass ≡ Write) (g : v ≡ b.bytes.now) where
    output_is : v ≡ printed_over a.bytes.now a.at t
    output_is = g ∙ p.written w (omega (arith, e))

    pub part_put : part_of a.at a.room v ≡ t
    part_put = ap (part_of a.at a.room) output_is ∙ part_written a.bytes.now t a.at a.room e (a.held w)

    pub rest_put : drop a.room v ≡ drop a.room a.bytes.now
    rest_put = ap (drop a.room) output_is ∙ rest_written a.bytes.now t a.at a.room e (a.held w)
