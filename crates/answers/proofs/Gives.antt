-- What a refusal, an answer that fits and one that does not give with an output.
use mathlib.Core.Path.{◌≡◌, refl, sym, ap, ◌∙◌}
use Prim.Native.Nat.{ℕ, ◌+◌, ◌<◌, ◌≤◌}
use Rattle.std.specs.Prelude.{Some, None, Ok, Err}
use lib.ListN.{length}
use native.Mathlib.Nat.{zero-add}
use native.Mathlib.Omega.{arith}
use borrow.Author.Tests.{le-leb, lt-leb}
use Rattle.rules.specs.Bytes.{Text}
use Rattle.rules.specs.declared.Refusal.{Refusal}
use Rattle.rules.specs.declared.Refusal.TheVariants.{ShortOutput}
use Rattle.rules.specs.RefusalNumbers.{number_for}
use Rattle.rules.specs.Call.{Reply, refused, passed, refusal_number, written, overwritten}
use Rattle.text.specs.Printing as Print
use Rattle.printing.specs.Putting.{PutInto}
use Rattle.printing.specs.declared.output.Output.{Output}
use Rattle.printing.specs.declared.output.Pass.TheVariants.{Measure, Write}
use Rattle.printing.proofs.Lengths.{told, told_over}
use Rattle.answers.specs.Settling.{within_room, Settles}

fits_within : (a : Text) (room : ℕ) → length a ≤ room → within_room (passed a) room ≡ passed a
unfolding within_room
fits_within a room h = rw (le-leb (length a) room h)

fits_over : (a : Text) (room : ℕ) → room < length a → within_room (passed a) room ≡ refused (number_for ShortOutput)
unfolding within_room
fits_over a room h = rw (lt-leb (length a) room h)

pub settles_refused : {o : Reply Text} (x : Refusal) {out v : Text} → o ≡ refused (number_for x) → v ≡ out → Settles o out v (Err x)
settles_refused x {out} e f = record {
  number = sym (ap refusal_number e);
  count = sym (ap written e);
  output = f ∙ sym (ap (λ (r : Reply Text). overwritten r out) e);
}

pub refused_settles : (x : Refusal) (out : Text) → Settles (within_room (refused (number_for x)) (length out)) out out (Err x)
unfolding within_room
refused_settles x out = settles_refused x refl refl

module _ {a b : Output} {t v : Text} {n : ℕ} (z : a.at ≡ 0) (m : a.pass ≡ Measure) (o : a.room ≡ length a.bytes.now) where
  -- measured, and too long
  pub short_settles : PutInto a b t n None → v ≡ b.bytes.now → Settles (within_room (passed t) (length a.bytes.now)) a.bytes.now v (Err ShortOutput)
  short_settles p f =
      let k = told_over p.end in
      settles_refused ShortOutput (fits_over t (length a.bytes.now) (omega (arith, k, z, o))) (f ∙ p.kept m)

  -- measured, and written
  pub written_settles : {c d : Output} → PutInto a b t n (Some (tt {0})) → c.bytes ≡ b.bytes → c.at ≡ 0 → c.pass ≡ Write → PutInto c d t n (Some (tt {0})) → v ≡ d.bytes.now → Settles (within_room (passed t) (length a.bytes.now)) a.bytes.now v (Ok d.at)
  unfolding Print.printed_over
  written_settles {c} {d} p f y w q g =
      let k = told p.end in
      let l = told q.end in
      let e = fits_within t (length a.bytes.now) (omega (arith, k, z, o)) in
      record {
        number = sym (ap refusal_number e);
        count = l.0 ∙ ap (λ n. n + length t) y ∙ zero-add (length t) ∙ sym (ap written e);
        output = g ∙ q.written w l.1 ∙ rw (y, f, p.kept m, zero-add (length t)) (sym (ap (λ (r : Reply Text). overwritten r a.bytes.now) e));
      }
