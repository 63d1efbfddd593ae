-- The words of the work area that a form needs are those of its sheet.
use mathlib.Core.Path.{◌≡◌, ap, sym, ◌∙◌}
use mathlib.Core.Bool.{Bool, true, false, cond}
use mathlib.Core.List.{List, [], ◌∷◌}
use Prim.Native.Nat.{ℕ, suc, ◌+◌, ◌-◌, ◌*◌, ◌≤◌}
use native.Mathlib.Omega.{arith}
use lib.Dec.{eqb}
use lib.ListN.{length, drop, length-take, length-drop}
use denote.Enum.Declared.{tag_of}
use types.Run.{OneOf}
use Rattle.rules.specs.Bytes.{Text}
use Rattle.rules.specs.Text.{count_of}
use Rattle.rules.specs.Sheet.{asks_equal, asks_reduce, raise, words_needed}
use Rattle.sheet.specs.Lines.{part_of}
use Rattle.forms.specs.Form.{text_of, sheet_of, RaisesBy, NeedsWords}
use Rattle.sheet.specs.declared.Cursor.{Cursor}
use Rattle.sheet.specs.declared.Place.{Place}
use Rattle.forms.specs.declared.form.Form.{Form}
use Rattle.forms.specs.declared.form.Form.TheVariants as form
use Rattle.forms.specs.contracts.form.Form.{the_type}
use Rattle.forms.proofs.WalkLaws.{unify_pairs, match_pairs, cover_parts, sound_member, complete_members}

count_small : (b : ℕ) (s : Text) → count_of b s ≤ length s
unfolding count_of
count_small b [] = omega arith
count_small b (a ∷ s) = go (eqb a b) (count_small b s)
  where
    go : (t : Bool) → count_of b s ≤ length s → cond t 1 0 + count_of b s ≤ suc (length s)
    go true h = omega arith
    go false h = omega arith

pub count_bound : (b : ℕ) (s : Text) {n : ℕ} → length s ≤ 65536 → n ≡ count_of b s → n ≤ 65536
count_bound b s h e = omega (arith, count_small b s)

pub part_count_bound : (b : ℕ) (s : Text) (f t : ℕ) {n : ℕ} {x : Text} → length s ≤ 65536 → x ≡ part_of f t s → n ≡ count_of b x → n ≤ 65536
part_count_bound b s f t {n} {x} h p e = omega (arith, count_small b x, ap length p, length-take (t - f) (drop f s), length-drop f s)

-- `complete` raises the words by twice the count of `(` in its term
pub raise_counted : (s : Text) (t : Place) (c : Cursor) (r : Form) → r ≡ form.Complete t c → {n : ℕ} → n ≡ count_of 40 (text_of s t) → RaisesBy s r (2 * n)
raise_counted s t c r f k sheet e =
    let h = complete_members s t c sheet (ap (sheet_of s) (sym f) ∙ e) in
    ap (λ (n : ℕ). 2 * n) k ∙ ap raise (sym h.1)

-- no other kind raises the words: ks are the kinds left, and `complete` is none of them
pub no_raise : (ks : List ℕ) (s : Text) (r : Form) → ((t : Place) (c : Cursor) → OneOf ks (tag_of the_type (form.Complete t c)) → ⊥) → OneOf ks (tag_of the_type r) → RaisesBy s r 0
unfolding sheet_of
no_raise ks s (form.Equal l r) d h sheet e = let z : asks_equal (text_of s l) (text_of s r) ≡ sheet = cc in ap raise z
no_raise ks s (form.Unify fuel c) d h sheet e = let h = unify_pairs s fuel c sheet e in ap raise (sym h.1)
no_raise ks s (form.Match fuel c) d h sheet e = let h = match_pairs s fuel c sheet e in ap raise (sym h.1)
no_raise ks s (form.Reduce t) d h sheet e = let z : asks_reduce (text_of s t) ≡ sheet = cc in ap raise z
no_raise ks s (form.Cover b c) d h sheet e = let h = cover_parts s b c sheet e in ap raise (sym h.3)
no_raise ks s (form.Sound t c) d h sheet e = let h = sound_member s t c sheet e in ap raise (sym h.1)
no_raise ks s (form.Complete t c) d h sheet e = absurd (d t c h)

-- the words of a form are those of its sheet
pub form_needs : (s : Text) (r : Form) {a b : ℕ} → a ≡ count_of 58 s → RaisesBy s r b → NeedsWords s r (65536 * (a + b + 16) + 16 * length s)
unfolding words_needed
form_needs s r k h sheet e = rw (k, h sheet e)
