-- What the call wrote, compared with the answer stored, and a record's replay.
use Rattle.std.proofs.Common.{◌≡◌, ℕ, ◌≤◌, Bool, true, false, ◌&&◌, eqb, leb, List, [], ◌++◌, length, take, drop, sym, refl, ap, ◌∙◌, arith, length-append, length-take-le, take_at, le-leb, leb-true, None}
use Rattle.rules.specs.Bytes.{Text, same}
use Rattle.std.proofs.lemmas.Bool.{ne_eqb}
use Rattle.laws.proofs.Basics.Tests.{and_left, and_right, eqb_self}
use Rattle.rules.specs.Call.{Reply, refused, passed, refusal_number, written, overwritten}
use Rattle.yukhtsami.specs.Answering.{Gives}
use Rattle.replay.specs.Replaying.{asked, agreeing, Compares, Replays, lends, outcome}
use Rattle.replay.specs.declared.call.Record.{Record}

-- a number that is, or is not, the one stored
pub said_same : {m n : ℕ} (b r : Bool) → m ≡ n → r ≡ b → r ≡ eqb m n && b
said_same {m} {n} b r e f = f ∙ ap (λ (x : Bool). x && b) (sym (eqb_self n)) ∙ ap (λ (k : ℕ). eqb k n && b) (sym e)

pub said_other : {k m n : ℕ} (b : Bool) → k ≡ m → (k ≡ n → ⊥) → eqb k n ≡ eqb m n && b
said_other {k} {m} {n} b e f = rw (sym e, ne_eqb k n f) refl

-- the bytes written are the reply's
reply_agrees : (p : Reply Text) (out : Text) (refusal : ℕ) (answer : Text)
    → eqb (refusal_number p) refusal && (leb (written p) (length (overwritten p out)) && same (take (written p) (overwritten p out)) answer) ≡ agreeing p refusal answer
unfolding agreeing
reply_agrees (refused n) out refusal answer = ap (λ (b : Bool). eqb n refusal && (b && same [] answer)) (le-leb 0 (length out) (omega arith))
reply_agrees (passed t) out refusal answer =
    let h : length t ≤ length (t ++ drop (length t) out) = simp length-append (omega arith) in
    ap (λ (b : Bool). eqb 0 refusal && (b && same (take (length t) (t ++ drop (length t) out)) answer)) (le-leb (length t) (length (t ++ drop (length t) out)) h)
    ∙ ap (λ (l : Text). eqb 0 refusal && same l answer) (take_at t (drop (length t) out) (length t) refl)

module _ (f : Text → ℕ → ℕ → Reply Text) (s : Text) (w v : List ℕ) (out after : Text) (number count : ℕ) (refusal : ℕ) (answer : Text) (called : Gives f s w v out after number count) where
  pub compares : (r : Bool) → r ≡ eqb number refusal && (leb count (length after) && same (take count after) answer) → Compares f s w v out after refusal answer r
  compares r e = record {
    agrees = e ∙ go number count after called.number called.written_is called.output;
    work = called.work;
    output = called.output;
  }
    where
      go : (n m : ℕ) (a : Text) → n ≡ refusal_number (f s (length w) (length out)) → m ≡ written (f s (length w) (length out))
          → a ≡ overwritten (f s (length w) (length out)) out
          → eqb n refusal && (leb m (length a) && same (take m a) answer) ≡ agreeing (f s (length w) (length out)) refusal answer
      go n m a p q o = rw (p, q, o) (reply_agrees (f s (length w) (length out)) out refusal answer)

module _ (stored : Record) (w : List ℕ) (out : Text) where
  pub skipped : lends (length w) (length out) stored ≡ false → Replays stored w w out out None
  skipped e = record { says = rw e; work = rw e; output = rw e }

  pub lends_words : (b : Bool) → b ≡ lends (length w) (length out) stored → b ≡ true → stored.words ≤ length w
  unfolding lends
  lends_words b e t = leb-true stored.words (length w) (and_left (leb stored.words (length w)) (leb stored.room (length out)) (sym e ∙ t))

  pub lends_room : (b : Bool) → b ≡ lends (length w) (length out) stored → b ≡ true → stored.room ≤ length out
  unfolding lends
  lends_room b e t = leb-true stored.room (length out) (and_right (leb stored.words (length w)) (leb stored.room (length out)) (sym e ∙ t))

  pub replayed : (v' : List ℕ) (after' : Text) (b q r : Bool) → b ≡ q → r ≡ lends (length w) (length out) stored → r ≡ true
      → Compares (asked stored.paged) stored.sheet.now (take stored.words w) v' (take stored.room out) after' stored.refusal stored.answer.now b
      → Replays stored w (v' ++ drop stored.words w) out (after' ++ drop stored.room out) (outcome true q)
  replayed v' after' b q r h l t c =
      let e : lends (length w) (length out) stored ≡ true = sym l ∙ t in
      let m : length (take stored.words w) ≡ stored.words = length-take-le stored.words w (lends_words r l t) in
      let n : length (take stored.room out) ≡ stored.room = length-take-le stored.room out (lends_room r l t) in
      record {
        says = rw e (ap (outcome true) (sym h ∙ (rw (m, n) at c.agrees)));
        work = rw e (ap (λ (x : List ℕ). x ++ drop stored.words w) c.work);
        output = rw e (ap (λ (x : List ℕ). x ++ drop stored.room out) (rw (m, n) at c.output));
      }
