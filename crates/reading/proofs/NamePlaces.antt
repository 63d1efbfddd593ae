-- A name among the symbols of a text is a place in the sheet, and its second byte is no bracket.
use Prim.Native.Nat.{ℕ, suc, ◌+◌, ◌-◌, ◌<◌, ◌≤◌}
use native.Mathlib.Omega.{arith}
use mathlib.Core.Path.{◌≡◌, ap, ◌∙◌, subst}
use mathlib.Core.List.{[], ◌∷◌}
use mathlib.Core.Bool.{Bool, true, false, ◌&&◌, ◌||◌, false≢true}
use lib.Dec.{eqb}
use lib.ListN.{length, get_or, take, drop}
use lib.Seq.{take-take, length-take-le}
use Rattle.rules.specs.Bytes.{Text}
use Rattle.rules.specs.Names.{digit, alphabetic, alphanumeric, all, identifier, number, word, variable_token}
use Rattle.laws.proofs.Reading.TokenKinds.{is_mark, is_token, rest_kind}
use Rattle.text.proofs.Loops.{drop_next}
use Rattle.text.proofs.Slices.{drop_take}
use Rattle.tree.specs.Cells.{part}
use Rattle.std.specs.Prelude.{Some}
use Rattle.sheet.specs.declared.Place.{Place}
use Rattle.syntax.specs.Next.{next_symbol}
use Rattle.syntax.specs.declared.symbols.Symbol.{Symbol}
use Rattle.syntax.specs.declared.symbols.Symbol.TheVariants.{Begin, Shut, Comma, Name, Stop}
use Rattle.syntax.proofs.Meanings.{means_is}
use Rattle.closing.specs.Words.{NamePlaced}

pub part_within : (s : Text) (a e to : ℕ) → a ≤ e → e ≤ to → to ≤ length s → take (e - a) (drop a (take to s)) ≡ part s a (e - a)
part_within s a e to p q r = ap (take (e - a)) (drop_take a to s) ∙ take-take (e - a) (to - a) (drop a s) (omega arith)

-- the second byte of a name
plain_name : (n : Text) → (word n || variable_token n) ≡ true → get_or n 1 0 ≡ 40 → ⊥
unfolding word identifier number variable_token all alphanumeric digit alphabetic
plain_name [] h e = omega arith
plain_name (b ∷ []) h e = omega arith
plain_name (b ∷ c ∷ n) h e = second (subst (λ (x : ℕ). (word (b ∷ x ∷ n) || variable_token (b ∷ x ∷ n)) ≡ true) e h)
  where
    go : (x y z : Bool) → (((x && false) || (y && false)) || (z && false)) ≡ true → ⊥
    go true true true k = false≢true k
    go true true false k = false≢true k
    go true false true k = false≢true k
    go true false false k = false≢true k
    go false true true k = false≢true k
    go false true false k = false≢true k
    go false false true k = false≢true k
    go false false false k = false≢true k

    second : (word (b ∷ 40 ∷ n) || variable_token (b ∷ 40 ∷ n)) ≡ true → ⊥
    second h = go (alphabetic b) (digit b) (eqb b 120 || eqb b 35 || eqb b 37) h

no_mark_name : (n : Text) → is_mark n ≡ false → is_token n ≡ true → (word n || variable_token n) ≡ true
no_mark_name n e h = subst (λ (b : Bool). (b || (word n || variable_token n)) ≡ true) e h

pub record NameAt (s : Text) (to at a e : ℕ) : Type 0 where
  pub past : at ≤ a
  pub some : a < e
  pub within : e ≤ to
  pub name : NamePlaced s a (e - a)
  pub bytes : take (e - a) (drop a (take to s)) ≡ part s a (e - a)

-- where a mark ends
abbrev pub Ends : Symbol → ℕ → Type 0
Ends (Begin e) t = e ≡ t
Ends (Shut e) t = e ≡ t
Ends (Comma e) t = e ≡ t
Ends (Name p) t = ⊥
Ends Stop t = ⊥

module _ (s : Text) (at to : ℕ) (q : to ≤ length s) {r : Symbol} (f : Some r ≡ next_symbol (take to s) at) where
  name_plain : (p : Place) → r ≡ Name p → get_or (take (p.to - p.from) (drop p.from (take to s))) 1 0 ≡ 40 → ⊥
  name_plain p g =
      let m = means_is (take to s) at f (Some (Name p)) (ap Some g) in
      let b = m.some_bytes in
      let w = m.within in
      let n = p.to - (p.from + 1) in
      let d : p.to - p.from ≡ suc n = omega arith in
      let u : take (p.to - p.from) (drop p.from (take to s)) ≡ get_or (take to s) p.from 0 ∷ take n (drop (p.from + 1) (take to s)) = rw (d, drop_next (take to s) p.from (omega arith)) in
      plain_name (take (p.to - p.from) (drop p.from (take to s)))
      (no_mark_name (take (p.to - p.from) (drop p.from (take to s))) m.no_mark (rw u (rest_kind (get_or (take to s) p.from 0) (drop (p.from + 1) (take to s)) n m.rest)))

  pub name_at_place : (from : ℕ) (p : Place) → from ≤ at → to < from + 65536 → r ≡ Name p → NameAt s to at p.from p.to
  name_at_place from name l o g =
      let m = means_is (take to s) at f (Some (Name name)) (ap Some g) in
      let c = length-take-le to s q in
      let p = m.past in
      let b = m.some_bytes in
      let w = m.within in
      let y = part_within s name.from name.to to (omega arith) (omega arith) q in
      record {
        past = p;
        some = b;
        within = omega arith;
        name = record {
          some = omega arith;
          inside = omega arith;
          short = omega arith;
          plain = λ h. name_plain name g (ap (λ (n : Text). get_or n 1 0) y ∙ h);
        };
        bytes = y;
      }

  -- another symbol that ends at t
  pub mark_past : (t : ℕ) (m : Symbol) → r ≡ m → Ends m t → (at < t) × (t ≤ to)
  mark_past t (Begin e) g h = let m = means_is (take to s) at f (Some (Begin e)) (ap Some g) in let c = length-take-le to s q in let p = m.past in let w = m.within in (omega arith, omega arith)
  mark_past t (Shut e) g h = let m = means_is (take to s) at f (Some (Shut e)) (ap Some g) in let c = length-take-le to s q in let p = m.past in let w = m.within in (omega arith, omega arith)
  mark_past t (Comma e) g h = let m = means_is (take to s) at f (Some (Comma e)) (ap Some g) in let c = length-take-le to s q in let p = m.past in let w = m.within in (omega arith, omega arith)
  mark_past t (Name p) g h = absurd h
  mark_past t Stop g h = absurd h
