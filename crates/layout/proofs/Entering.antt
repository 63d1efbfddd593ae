-- The next entry of what is unread: where its key and its text end, and what is still to be laid out.
use Prim.Native.Nat.{ℕ, zero, suc, ◌+◌, ◌-◌, ◌<◌, ◌≤◌}
use mathlib.Core.Path.{◌≡◌, refl, sym, ap, ap₂, ◌∙◌}
use mathlib.Core.Bool.{Bool, true, false, cond, ◌||◌, false≢true}
use mathlib.Core.List.{List, [], ◌∷◌, ◌++◌, append_assoc}
use lib.Dec.{eqb, ltb}
use lib.ListN.{length, get_or, take, drop, length-append, take-append-drop}
use lib.Seq.{take_at, drop-append-add, drop-drop}
use native.Mathlib.Omega.{arith}
use Rattle.std.specs.Prelude.{Option, Some, None, option_map, position}
use Rattle.std.specs.Option.{unwrap_or}
use Rattle.std.specs.Int.{from_bool}
use Rattle.std.proofs.Math.Bool.{or-false}
use Rattle.rules.specs.Bytes.{Text}
use Rattle.rules.specs.Names.{all}
use Rattle.rules.specs.Text.{count_of}
use Rattle.rules.specs.Sheet.{Entry}
use Rattle.rules.specs.SheetLines.{ended}
use Rattle.rules.specs.Page.{lines_of}
use Rattle.laws.specs.Laying.{solid, solid_key, all_columned, entry_lines}
use Rattle.laws.proofs.Basics.Tests.{and_left, and_right}
use Rattle.laws.proofs.Basics.Bytes.{not_byte}
use Rattle.laws.proofs.Sheets.Entries.{first_columned, rest_columned, key_short, key_bytes, key_solid, text_solid}
use borrow.Author.Tests.{lt-ltb}
use Rattle.text.proofs.Library.{position_more}
use Rattle.text.proofs.Loops.{count_next, count_end}
use Rattle.layout.specs.declared.entries.Place.{Place}
use Rattle.sheet.specs.Lines.{part_of}
use Rattle.layout.specs.Places.{length_before, laid, laid_out, Filling, Unread}
use Rattle.layout.proofs.Rooms.{part_on, part_front, part_length}
use Rattle.layout.proofs.Turns.{InText, laid_out_is}

-- the first byte that is b, after bytes that are not

before_more : (b x : ℕ) (s : Text) → eqb x b ≡ false → length_before b (x ∷ s) ≡ suc (length_before b s)
before_more b x s e =
    ap (λ (o : Option ℕ). unwrap_or o (suc (length s))) (position_more (λ (y : ℕ). eqb y b) x s ∙ ap (λ (t : Bool). cond t (Some 0) (option_map suc (position (λ (y : ℕ). eqb y b) s))) e)
    ∙ go (position (λ (y : ℕ). eqb y b) s)
  where
    go : (o : Option ℕ) → unwrap_or (option_map suc o) (suc (length s)) ≡ suc (unwrap_or o (length s))
    go None = refl
    go (Some n) = refl

before_here : (b x : ℕ) (s : Text) → eqb x b ≡ true → length_before b (x ∷ s) ≡ 0
before_here b x s e =
    ap (λ (o : Option ℕ). unwrap_or o (suc (length s))) (position_more (λ (y : ℕ). eqb y b) x s ∙ ap (λ (t : Bool). cond t (Some 0) (option_map suc (position (λ (y : ℕ). eqb y b) s))) e)

before_first : (test : ℕ → Bool) (b : ℕ) → test b ≡ false → eqb b b ≡ true → (k s : Text) → all test k ≡ true → length_before b (k ++ b ∷ s) ≡ length k
unfolding all
before_first test b f e [] s h = before_here b b s e
before_first test b f e (x ∷ k) s h =
    before_more b x (k ++ b ∷ s) (not_byte test b f x (and_left (test x) (all test k) h))
    ∙ ap suc (before_first test b f e k s (and_right (test x) (all test k) h))

-- a block that is looked through

or_next : (f e : Bool) (n m : ℕ) → m ≡ from_bool e + n → ((f || e) || ltb 0 n) ≡ (f || ltb 0 m)
or_next true e n m h = refl
or_next false true n m h = sym (lt-ltb 0 m (omega arith))
or_next false false n m h = ap (ltb 0) (omega arith)

pub held_next : (f : Bool) (b : ℕ) (s : Text) (i : ℕ) {r : Bool} → i < length s → (f || ltb 0 (count_of b (drop i s))) ≡ r
    → ((f || eqb (get_or s i 0) b) || ltb 0 (count_of b (drop (i + 1) s))) ≡ r
held_next f b s i h e = or_next f (eqb (get_or s i 0) b) (count_of b (drop (i + 1) s)) (count_of b (drop i s)) (count_next b s i h) ∙ e

pub held_end : (f : Bool) (b : ℕ) (s : Text) (i : ℕ) {r : Bool} → length s ≤ i → (f || ltb 0 (count_of b (drop i s))) ≡ r → f ≡ r
held_end f b s i h e = sym (or-false f) ∙ sym (ap (λ (n : ℕ). f || ltb 0 n) (count_end b s i h)) ∙ e

pub none_held : (n : ℕ) → false ≡ ltb 0 n → n ≡ 0
none_held zero e = refl
none_held (suc n) e = absurd (false≢true (e ∙ lt-ltb 0 (suc n) (omega arith)))

-- bytes with none that is b, and those after them
before_none : (b : ℕ) (k s : Text) → count_of b k ≡ 0 → length_before b (k ++ s) ≡ length k + length_before b s
unfolding count_of
before_none b [] s h = omega arith
before_none b (x ∷ k) s h = go (eqb x b) refl h (before_none b k s)
  where
    go : (t : Bool) → eqb x b ≡ t → cond t 1 0 + count_of b k ≡ 0 → (count_of b k ≡ 0 → length_before b (k ++ s) ≡ length k + length_before b s)
        → length_before b (x ∷ (k ++ s)) ≡ suc (length k) + length_before b s
    go true e h r = absurd (omega arith)
    go false e h r = before_more b x (k ++ s) e ∙ ap suc (r (omega arith)) ∙ omega arith

pub before_block : (b n at : ℕ) (s : Text) → at + n ≤ length s → count_of b (part_of at (at + n) s) ≡ 0 → length_before b (drop at s) ≡ n + length_before b (drop (at + n) s)
before_block b n at s l h =
    let i : at + n - at ≡ n = omega arith in
    let e : part_of at (at + n) s ++ drop (at + n) s ≡ drop at s =
    ap (λ (m : ℕ). take m (drop at s) ++ drop (at + n) s) i ∙ ap (take n (drop at s) ++◌) (sym (drop-drop n at s)) ∙ take-append-drop n (drop at s) in
    let k : length (part_of at (at + n) s) ≡ n = part_length at (at + n) s l ∙ i in
    ap (length_before b) (sym e) ∙ before_none b (part_of at (at + n) s) (drop (at + n) s) h ∙ ap (◌+ length_before b (drop (at + n) s)) k

-- what is unread begins with an entry
pub record Entered (out : Text) (end : ℕ) (p : Place) : Type 0 where
  pub first : Entry
  pub more : List Entry
  pub reader : p.from ≤ end
  pub listed : part_of p.from end out ≡ first.0 ++ 61 ∷ (first.1 ++ 10 ∷ entry_lines more)
  pub fit : all_columned (first ∷ more) ≡ true
  pub filling : Filling out end p (lines_of (first ∷ more))
  pub laid_is : laid_out out end p ≡ laid out end p (lines_of (first ∷ more))

pub entered : {out : Text} {end : ℕ} {p : Place} → Unread out end p → p.from < end → Entered out end p
unfolding entry_lines ended
entered {out} {end} {p} u some = go u.fields u.listed u.fit u.filling
  where
    go : (es : List Entry) → part_of p.from end out ≡ entry_lines es → all_columned es ≡ true → Filling out end p (lines_of es) → Entered out end p
    go [] l f s = let i = part_length p.from end out s.inside in absurd (omega (arith, ap length l))
    go (e ∷ es) l f s = record { first = e; more = es; reader = u.reader; listed = l ∙ append_assoc e.0 (61 ∷ e.1) (10 ∷ entry_lines es); fit = f; filling = s; laid_is = laid_out_is out end p (e ∷ es) f l }

module _ {out : Text} {end : ℕ} {p : Place} (t : Entered out end p) where
  rest_length : length t.first.0 + (1 + (length t.first.1 + (1 + length (entry_lines t.more)))) ≡ end - p.from
  rest_length =
      let i = part_length p.from end out t.filling.inside in
      let j = ap length t.listed in
      let k = length-append t.first.0 (61 ∷ (t.first.1 ++ 10 ∷ entry_lines t.more)) in
      let l = length-append t.first.1 (10 ∷ entry_lines t.more) in
      omega arith

  pub key_found : length_before 61 (part_of p.from end out) ≡ length t.first.0
  key_found = ap (length_before 61) t.listed ∙ before_first solid_key 61 refl refl t.first.0 (t.first.1 ++ 10 ∷ entry_lines t.more) (key_bytes t.first (first_columned t.first t.more t.fit))

  pub key_room : p.from + length t.first.0 + 1 < end
  key_room = let i = rest_length in let r = t.reader in omega arith

  module _ {key : ℕ} (k : key ≡ length t.first.0) where
    text_listed : part_of (p.from + key + 1) end out ≡ t.first.1 ++ 10 ∷ entry_lines t.more
    text_listed =
        let c : p.from + key + 1 ≡ p.from + (length t.first.0 + 1) = omega arith in
        ap (λ (n : ℕ). part_of n end out) c ∙ part_on p.from (length t.first.0 + 1) end out ∙ ap (drop (length t.first.0 + 1)) t.listed
        ∙ drop-append-add t.first.0 (61 ∷ (t.first.1 ++ 10 ∷ entry_lines t.more)) 1

    pub text_found : length_before 10 (part_of (p.from + key + 1) end out) ≡ length t.first.1
    text_found = ap (length_before 10) text_listed ∙ before_first solid 10 refl refl t.first.1 (entry_lines t.more) (text_solid t.first (first_columned t.first t.more t.fit))

    -- its text begins
    pub in_text : {q : Place} {rest : ℕ} → q.at ≡ p.at → q.from ≡ p.from + key + 1 → q.left ≡ p.left → q.number ≡ p.number → rest ≡ length t.first.1
        → InText (laid_out out end p) out end q key rest
    unfolding lines_of laid
    in_text {q} {rest} a f l n r =
        let c = first_columned t.first t.more t.fit in
        let i = rest_length in
        let d = t.reader in
        let s = t.filling in
        record {
          name = t.first.0;
          text = t.first.1;
          fields = t.more;
          reader = omega arith;
          before = omega arith;
          short = let g = key_short t.first c in omega arith;
          key_is =
              ap₂ (λ (x y : ℕ). take x (drop y out)) k (let g : q.from - 1 - key ≡ p.from = omega arith in g)
              ∙ part_front p.from (length t.first.0) end out (omega arith) ∙ ap (take (length t.first.0)) t.listed
              ∙ take_at t.first.0 (61 ∷ (t.first.1 ++ 10 ∷ entry_lines t.more)) (length t.first.0) refl;
          key_solid = key_solid t.first c;
          rest_is = sym r;
          listed = ap (λ (x : ℕ). part_of x end out) f ∙ text_listed;
          text_solid = text_solid t.first c;
          fit = rest_columned t.first t.more t.fit;
          filling = record { inside = s.inside; room = rw (a, l, n) s.room; number = rw (a, l, n) s.number };
          laid_is = rw (a, l, n) (sym t.laid_is);
        }
