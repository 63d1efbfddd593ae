-- What is left of the list after bytes, a number and a record.
use Rattle.std.proofs.Common.{◌≡◌, ℕ, ◌<◌, true, [], ◌∷◌, ◌++◌, length, sym, refl, ap, ◌∙◌, arith, length-append}
use mathlib.Core.Bool.{false≢true}
use Rattle.std.proofs.lemmas.List.{append_assoc}
use Rattle.rules.specs.Bytes.{Text, same}
use Rattle.laws.proofs.Basics.Tests.{and_left, and_right, same_eq}
use Rattle.text.specs.Prefix.{begins_with}
use Rattle.replay.specs.Records.{LeftOf, ReadsRecord, first_word, in_form}
use Rattle.replay.specs.declared.call.Record.{Record}

pub left_all : (a : Text) → LeftOf a a
left_all a = ([], refl)

pub left_then : {a b c : Text} → LeftOf a b → LeftOf b c → LeftOf a c
left_then {a} {b} {c} l m = (l.0 ++ m.0, l.1 ∙ ap (λ (x : Text). l.0 ++ x) m.1 ∙ sym (append_assoc l.0 m.0 c))

-- after a first byte less is left
pub left_less : (k : ℕ) (a b c x y : Text) → begins_with (k ∷ []) a ≡ true → a ≡ x ++ b → (0 < length a → 0 < length x) → b ≡ y ++ c → length c < length a
unfolding begins_with
left_less k [] b c x y e p h q = absurd (false≢true e)
left_less k (n ∷ a) b c x y e p h q =
    let z : length (n ∷ a) ≡ length (x ++ b) = ap length p in
    let w : length b ≡ length (y ++ c) = ap length q in
    omega (arith, z, w, h, length-append x b, length-append y c)

pub reads : {list rest a b c after : Text} (r : Record) (end : Text) → LeftOf list rest → rest ≡ r.label.now ++ a → a ≡ r.sheet.now ++ b → b ≡ r.answer.now ++ c
    → c ≡ end ++ after → in_form list r.paged end ≡ true → ReadsRecord list r after
reads {list} {after = after} r end l p q s t f =
    let e : end ≡ 10 ∷ [] = same_eq end (10 ∷ []) (and_right (begins_with (first_word r.paged) list) (same end (10 ∷ [])) f) in
    record {
      head = l.0;
      parts = l.1 ∙ ap (λ (x : Text). l.0 ++ x) (p ∙ ap (λ (x : Text). r.label.now ++ x) (q ∙ ap (λ (x : Text). r.sheet.now ++ x)
          (s ∙ ap (λ (x : Text). r.answer.now ++ x) (t ∙ ap (λ (x : Text). x ++ after) e))));
      starts = and_left (begins_with (first_word r.paged) list) (same end (10 ∷ [])) f;
    }

-- after a record less is left
pub reads_less : {list rest : Text} {r : Record} → ReadsRecord list r rest → length rest < length list
reads_less {list} {rest} {r} h =
    let z : length list ≡ length (h.head ++ (r.label.now ++ (r.sheet.now ++ (r.answer.now ++ (10 ∷ rest))))) = ap length h.parts in
    omega (arith, simp length-append at z)
