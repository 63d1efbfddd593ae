-- What a call that answers says of the sheet: it reads, so do its terms, and the answer is the rules'.
use mathlib.Core.Path.{◌≡◌, refl, sym, ◌∙◌, ap, subst}
use mathlib.Core.Bool.{Bool, true, false, false≢true}
use mathlib.Core.List.{List, [], ◌∷◌, map}
use Rattle.std.specs.Prelude.{Option, Some, None}
use Rattle.laws.proofs.Basics.Somes.{some_injective}
use Prim.Native.Nat.{ℕ}
use lib.Dec.{leb}
use lib.ListN.{length}
use Rattle.rules.specs.Bytes.{Text}
use Rattle.rules.specs.Names.{all}
use Rattle.rules.specs.Maybe.{every}
use Rattle.rules.specs.Substitution.{Pair}
use Rattle.rules.specs.Reading.{parse}
use Rattle.rules.specs.Sheet.{Sheet, Entry, asks_unify, asks_match, read_sheet, words_needed}
use Rattle.rules.specs.Solving.{unify}
use Rattle.rules.specs.Matching.{matcher}
use Rattle.rules.specs.Answer.{verdict_lines, read_pair, read_pairs, answer_of}
use Rattle.rules.specs.Call as Call
use Rattle.rules.specs.Call.{Reply, refused, passed, need, given, plain, admitted, settled, call}
use Rattle.rules.specs.declared.Refusal.TheVariants.{TooLong, ForeignByte, LineOutOfPlace, UnreadableTerm, ShortWorkArea, ShortOutput}
use Rattle.rules.specs.RefusalNumbers.{number_for}
use Rattle.laws.proofs.Basics.Options.{bound}
use Rattle.laws.proofs.Reading.Builds.{builds, reads_within}
use Rattle.laws.proofs.Sheets.BuiltRun.{BuiltPairs, SmallPairs}

-- Replies

module _ {A : Type 0} where
  abbrev has_passed : Reply A → Bool
  has_passed (refused n) = false
  has_passed (passed a) = true

  abbrev what_passed : A → Reply A → A
  what_passed a (refused n) = a
  what_passed a (passed b) = b

  passed_injective : (a b : A) → passed a ≡ passed b → a ≡ b
  passed_injective a b e = ap (what_passed a) e

  given_passed : (o : Option A) (n : ℕ) (a : A) → given o n ≡ passed a → o ≡ Some a
  given_passed None n a e = absurd (false≢true (ap has_passed e))
  given_passed (Some b) n a e = ap Some (passed_injective b a e)

module _ {A B : Type 0} where
  replied : (r : Reply A) (f : A → Reply B) (b : B) → Call.◌>>=◌ r f ≡ passed b → (a : A) × (r ≡ passed a) × (f a ≡ passed b)
  replied (refused n) f b e = absurd (false≢true (ap has_passed e))
  replied (passed a) f b e = (a, refl, e)

-- The call

admitted_sheet : (s : Text) (words : ℕ) (sheet : Sheet) → admitted s words ≡ passed sheet → read_sheet s ≡ Some sheet
unfolding admitted
admitted_sheet s words sheet e =
    let (u, p, e₁) = replied (need (leb (length s) 65536) (number_for TooLong)) _ sheet e in
    let (v, q, e₂) = replied (need (all plain s) (number_for ForeignByte)) _ sheet e₁ in
    let (h, r, e₃) = replied (given (read_sheet s) (number_for LineOutOfPlace)) _ sheet e₂ in
    let (w, t, e₄) = replied (need (leb (words_needed s h) words) (number_for ShortWorkArea)) _ sheet e₃ in
    given_passed (read_sheet s) (number_for LineOutOfPlace) h r ∙ ap Some (passed_injective h sheet e₄)

settled_answer : (sheet : Sheet) (room : ℕ) (a : Text) → settled sheet room ≡ passed a → answer_of sheet ≡ Some a
unfolding settled
settled_answer sheet room a e =
    let (b, p, e₁) = replied (given (answer_of sheet) (number_for UnreadableTerm)) _ a e in
    let (u, q, e₂) = replied (need (leb (length b) room) (number_for ShortOutput)) _ a e₁ in
    given_passed (answer_of sheet) (number_for UnreadableTerm) b p ∙ ap Some (passed_injective b a e₂)

-- a sheet that is answered reads
pub call_sheet : (s : Text) (words room : ℕ) (a : Text) → call s words room ≡ passed a → (sheet : Sheet) × (read_sheet s ≡ Some sheet)
unfolding call
call_sheet s words room a e = let (h, p, e₁) = replied (admitted s words) (λ h. settled h room) a e in (h, admitted_sheet s words h p)

pub call_answer : (s : Text) (words room : ℕ) (sheet : Sheet) (a : Text) → read_sheet s ≡ Some sheet → call s words room ≡ passed a → answer_of sheet ≡ Some a
unfolding call
call_answer s words room sheet a r e =
    let (h, p, e₁) = replied (admitted s words) (λ h. settled h room) a e in
    let q = some_injective h sheet (sym (admitted_sheet s words h p) ∙ r) in
    subst (λ (z : Sheet). answer_of z ≡ Some a) q (settled_answer h room a e₁)

-- The pairs

pub pair_read : (e : Entry) (p : Pair) → read_pair e ≡ Some p → (parse e.0 ≡ Some p.0) × (parse e.1 ≡ Some p.1)
unfolding read_pair
pair_read e p h =
    let (l, k, h₁) = bound (parse e.0) _ p h in
    let (r, j, h₂) = bound (parse e.1) _ p h₁ in
    let q = some_injective (l, r) p h₂ in
    (k ∙ ap (λ (z : Pair). Some z.0) q, j ∙ ap (λ (z : Pair). Some z.1) q)

pub pairs_read : (es : List Entry) (ps : List Pair) → read_pairs es ≡ Some ps → BuiltPairs ps × SmallPairs ps
unfolding read_pairs
pairs_read [] ps h = subst (λ (z : List Pair). BuiltPairs z × SmallPairs z) (some_injective [] ps h) (tt, tt)
pairs_read (e ∷ es) ps h =
    let (p, k, h₁) = bound (read_pair e) _ ps h in
    let (qs, j, h₂) = bound (every (map read_pair es)) _ ps h₁ in
    let (l, r) = pair_read e p k in
    let i = pairs_read es qs j in
    subst (λ (z : List Pair). BuiltPairs z × SmallPairs z) (some_injective (p ∷ qs) ps h₂)
    ((builds e.0 p.0 l, builds e.1 p.1 r, i.0), (reads_within e.1 p.1 r, i.1))

-- the answer to a sheet of pairs
pub unify_text : (k : ℕ) (texts : List Entry) (a : Text) → answer_of (asks_unify k texts) ≡ Some a
    → (ps : List Pair) × (read_pairs texts ≡ Some ps) × (verdict_lines (unify k ps) ≡ a)
unfolding answer_of
unify_text k texts a e =
    let (ps, r, e₁) = bound (read_pairs texts) _ a e in
    (ps, r, some_injective _ a e₁)

pub match_text : (k : ℕ) (texts : List Entry) (a : Text) → answer_of (asks_match k texts) ≡ Some a
    → (ps : List Pair) × (read_pairs texts ≡ Some ps) × (verdict_lines (matcher k ps) ≡ a)
unfolding answer_of
match_text k texts a e =
    let (ps, r, e₁) = bound (read_pairs texts) _ a e in
    (ps, r, some_injective _ a e₁)
