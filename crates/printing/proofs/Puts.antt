-- Texts put one after another.
use Prim.Native.Nat.{ℕ, ◌+◌, ◌-◌, ◌<◌, ◌≤◌}
use mathlib.Core.Path.{◌≡◌, refl, sym, subst, ap, ap₂, ◌∙◌}
use mathlib.Core.List.{[], ◌∷◌, ◌++◌, append-nil}
use Rattle.std.specs.Prelude.{Option, Some, None}
use lib.ListN.{length, take, length-append}
use lib.Seq.{drop-drop}
use Rattle.std.proofs.lemmas.List.{drop_all}
use borrow.Rule.Slice.PartMut.{put_mid}
use native.Mathlib.Omega.{arith}
use Rattle.rules.specs.Bytes.{Text}
use Rattle.rules.specs.Answer.{line}
use Rattle.text.specs.Printing.{printed_over}
use Rattle.tree.proofs.Printing.{written_none, length_written, written_then}
use Rattle.printing.specs.Measure.{measured}
use Rattle.printing.specs.Paper.{lines_for}
use Rattle.printing.specs.Putting.{PutInto}
use Rattle.printing.specs.declared.output.Output.{Output}
use Rattle.printing.specs.declared.output.Pass.TheVariants.{Measure, Write}
use Rattle.printing.proofs.Lengths.{fits_is, over_is, told, told_over}

-- a part of an output that is written as a whole
pub filled : (p : Text) {q t : Text} → length p ≡ length t → q ≡ printed_over p 0 t → q ≡ t
unfolding printed_over
filled p {t = t} l e = e ∙ ap (λ (z : Text). t ++ z) (drop_all (0 + length t) p (omega arith)) ∙ append-nil t

-- and put back
pub put_back : (out : Text) {v t : Text} (at : ℕ) {n : ℕ} → n ≡ length t → v ≡ t → put_mid at (at + n - at) out v ≡ printed_over out at t
unfolding printed_over
put_back out {t = t} at {n} l f =
    let k : at + n - at ≡ length t = omega arith in
    rw (f, k) (ap (λ (z : Text). take at out ++ (t ++ z)) (drop-drop (length t) at out))

-- no text
pub puts_none : (a : Output) → PutInto a a [] 0 (Some (tt {0}))
puts_none a = record {
  lent = refl;
  pass = refl;
  room = refl;
  end = fits_is (omega arith) (omega (arith, a.inside));
  lines = λ e. omega arith;
  len = refl;
  written = λ _ _. sym (written_none a.bytes.now a.at);
  kept = λ _. refl;
}

-- b is a, but for its bytes and its place
pub record Same (a b : Output) : Type 0 where
  pub lent : b.bytes.ghost_name ≡ a.bytes.ghost_name
  pub pass : b.pass ≡ a.pass
  pub room : b.room ≡ a.room
  pub lines : b.lines ≡ a.lines

module _ {a b : Output} {t : Text} (s : Same a b) where
  -- a text that fits, in the pass that writes
  pub puts_written : a.pass ≡ Write → b.at ≡ a.at + length t → b.at ≤ a.room → b.bytes.now ≡ printed_over a.bytes.now a.at t → PutInto a b t 0 (Some (tt {0}))
  puts_written w e h f = record {
    lent = s.lent;
    pass = s.pass;
    room = s.room;
    end = fits_is e (omega arith);
    lines = λ _. omega (arith, s.lines);
    len = ap length f ∙ length_written a.bytes.now a.at t (omega (arith, a.held w));
    written = λ _ _. f;
    kept = λ m. absurd (cc);
  }

  -- and in the one that measures
  pub puts_measured : a.pass ≡ Measure → b.at ≡ a.at + length t → b.at ≤ a.room → b.bytes.now ≡ a.bytes.now → PutInto a b t 0 (Some (tt {0}))
  puts_measured m e h f = record {
    lent = s.lent;
    pass = s.pass;
    room = s.room;
    end = fits_is e (omega arith);
    lines = λ _. omega (arith, s.lines);
    len = ap length f;
    written = λ w _. absurd (cc);
    kept = λ _. f;
  }

-- one that does not fit
pub puts_over : {a : Output} {t : Text} {n : ℕ} → a.room - a.at < length t → PutInto a a t n None
puts_over {a} {t} h = record {
  lent = refl;
  pass = refl;
  room = refl;
  end = over_is (omega arith);
  lines = λ e. absurd (cc);
  len = refl;
  written = λ _ q. absurd (omega arith);
  kept = λ _. refl;
}

module _ {a b : Output} {t : Text} {n : ℕ} where
  -- one that does not fit, and another after it
  pub puts_past : (u : Text) → PutInto a b t n None → PutInto a b (t ++ u) n None
  puts_past u p =
      let k = told_over p.end in
      let l = length-append t u in
      record {
        lent = p.lent;
        pass = p.pass;
        room = p.room;
        end = over_is (omega arith);
        lines = λ e. absurd (cc);
        len = p.len;
        written = λ _ h. absurd (omega arith);
        kept = p.kept;
      }

  -- which counts no lines
  pub puts_uncounted : {m : ℕ} → PutInto a b t n None → PutInto a b t m None
  puts_uncounted p = record {
    lent = p.lent;
    pass = p.pass;
    room = p.room;
    end = p.end;
    lines = λ e. absurd (cc);
    len = p.len;
    written = p.written;
    kept = p.kept;
  }

  pub puts_lines : {m : ℕ} {r : Option (Unit {0})} → n ≡ m → PutInto a b t n r → PutInto a b t m r
  puts_lines e p = rw (← e) p

  pub puts_as : {u : Text} {r : Option (Unit {0})} → t ≡ u → PutInto a b t n r → PutInto a b u n r
  puts_as e p = rw (← e) p

  -- one text after another
  pub puts_then : {c : Output} {u : Text} {m : ℕ} {r : Option (Unit {0})} → PutInto a b t n (Some (tt {0})) → PutInto b c u m r → PutInto a c (t ++ u) (n + m) r
  puts_then {c} {u} p q =
      let k = told p.end in
      let l = length-append t u in
      record {
        lent = q.lent ∙ p.lent;
        pass = q.pass ∙ p.pass;
        room = q.room ∙ p.room;
        end = q.end ∙ ap₂ measured (omega arith) p.room;
        lines = λ e. omega (arith, p.lines refl, q.lines e);
        len = q.len ∙ p.len;
        written = λ y h.
            let x = p.written y (omega arith) in
            let z = p.room in
            q.written (p.pass ∙ y) (omega arith) ∙ ap₂ (λ o i. printed_over o i u) x k.0 ∙ written_then a.bytes.now a.at t u (omega (arith, a.held y));
        kept = λ y. q.kept (p.pass ∙ y) ∙ p.kept y;
      }

-- the place and the lines after a text that was put
pub puts_told : {a b : Output} {t : Text} {n : ℕ} → PutInto a b t n (Some (tt {0})) → (b.at ≡ a.at + length t) × (b.lines ≡ a.lines + n)
puts_told p = ((told p.end).0, p.lines refl)

-- a text, and then its lines counted
module _ {a b : Output} {t : Text} where
  pub puts_counted : {c : Output} (m : ℕ) → PutInto a b t 0 (Some (tt {0})) → c.bytes ≡ b.bytes → c.at ≡ b.at → c.pass ≡ b.pass → c.room ≡ b.room
      → c.lines ≡ b.lines + m → PutInto a c t m (Some (tt {0}))
  puts_counted {c} m p e f g h l = record {
    lent = ap (λ x. x.ghost_name) e ∙ p.lent;
    pass = g ∙ p.pass;
    room = h ∙ p.room;
    end = ap Some f ∙ p.end;
    lines = λ _. omega (arith, l, p.lines refl);
    len = ap (λ x. length x.now) e ∙ p.len;
    written = λ y k. ap (λ x. x.now) e ∙ p.written y k;
    kept = λ y. ap (λ x. x.now) e ∙ p.kept y;
  }

-- A line, by its key, its text and its end

module _ {a b : Output} (key : Text) (p : PutInto a b key 0 (Some (tt {0}))) {d : Output} (text : Text) where
  pub line_over : PutInto b d text 0 None → PutInto a d (line key text) (lines_for (length text)) None
  line_over q = puts_uncounted (puts_past (10 ∷ []) (puts_then p q))

  module _ (q : PutInto b d text 0 (Some (tt {0}))) where
    pub line_begun : (d.lines ≤ b.at) × (b.at ≤ d.at)
    line_begun = (omega (arith, puts_told p, puts_told q, a.counted), omega (arith, puts_told q))

    pub line_ended : {e : Output} {r : Option (Unit {0})} → PutInto d e (10 ∷ []) (lines_for (d.at - b.at)) r → PutInto a e (line key text) (lines_for (length text)) r
    line_ended {e} {r} s =
        let k : d.at - b.at ≡ length text = omega (arith, puts_told q) in
        let l : 0 + 0 + lines_for (length text) ≡ lines_for (length text) = omega arith in
        puts_lines l (puts_then (puts_then p q) (subst (λ (n : ℕ). PutInto d e (10 ∷ []) (lines_for n) r) k s))

pub line_past : {a b : Output} (key text : Text) {n : ℕ} → PutInto a b key 0 None → PutInto a b (line key text) n None
line_past key text p = puts_uncounted (puts_past (10 ∷ []) (puts_past text p))
