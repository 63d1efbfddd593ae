-- Texts without byte 10, and how they read as lines.
use mathlib.Core.Path.{◌≡◌, refl, ◌∙◌, ap, ap₂}
use mathlib.Core.Bool.{Bool, true, false}
use mathlib.Core.List.{List, [], ◌∷◌, ◌++◌, append_assoc}
use Rattle.std.specs.Prelude.{Option, Some}
use lib.Dec.{eqb}
use Rattle.rules.specs.Bytes.{Text}
use Rattle.rules.specs.Names.{all, number, word, variable_token}
use Rattle.rules.specs.Tree.{Tree}
use Rattle.rules.specs.Writing.{render}
use Rattle.rules.specs.Lines.{lines, on_first}
use Rattle.rules.specs.Tidy.{Built}
use Rattle.laws.specs.Laying.{solid}
use Rattle.laws.proofs.Basics.Tests.{and_left, and_right}
use Rattle.laws.proofs.Basics.Bytes.{not_byte}
use Rattle.laws.proofs.Sheets.Solid.{number_solid, word_solid, variable_solid, render_solid}

abbrev pub Clean : Text → Type 0
Clean [] = Unit {0}
Clean (b ∷ n) = (eqb b 10 ≡ false) × Clean n

pub clean_append : (a b : Text) → Clean a → Clean b → Clean (a ++ b)
clean_append [] b p q = q
clean_append (x ∷ a) b p q = (p.0, clean_append a b p.1 q)

pub solid_clean : (n : Text) → all solid n ≡ true → Clean n
unfolding all
solid_clean [] e = tt
solid_clean (b ∷ n) e = (not_byte solid 10 refl b (and_left (solid b) (all solid n) e), solid_clean n (and_right (solid b) (all solid n) e))

pub number_clean : (n : Text) → number n ≡ true → Clean n
number_clean n e = solid_clean n (number_solid n e)

pub word_clean : (n : Text) → word n ≡ true → Clean n
word_clean n e = solid_clean n (word_solid n e)

pub variable_clean : (x : Text) → variable_token x ≡ true → Clean x
variable_clean x e = solid_clean x (variable_solid x e)

pub render_clean : {t : Tree} → Built t → Clean (render t)
render_clean {t} b = solid_clean (render t) (render_solid b)

-- a line and the lines after it
pub line_read : (l : Text) → Clean l → (s : Text) (ls : List Text) → lines s ≡ Some ls → lines (l ++ (10 ∷ s)) ≡ Some (l ∷ ls)
unfolding lines
line_read [] c s ls e = ap (on_first true 10) e
line_read (b ∷ l) c s ls e = ap₂ (λ (x : Bool) (o : Option (List Text)). on_first x b o) c.0 (line_read l c.1 s ls e)

pub two_lines : (a c s : Text) (ls : List Text) → Clean a → Clean c → lines s ≡ Some ls
    → lines (((a ++ (10 ∷ [])) ++ (c ++ (10 ∷ []))) ++ s) ≡ Some (a ∷ c ∷ ls)
two_lines a c s ls p q e =
    ap lines (append_assoc (a ++ (10 ∷ [])) (c ++ (10 ∷ [])) s
    ∙ append_assoc a (10 ∷ []) ((c ++ (10 ∷ [])) ++ s)
    ∙ ap (λ (r : Text). a ++ (10 ∷ r)) (append_assoc c (10 ∷ []) s))
    ∙ line_read a p (c ++ (10 ∷ s)) (c ∷ ls) (line_read c q s ls e)
