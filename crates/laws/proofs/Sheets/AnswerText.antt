-- An answer's text reads as the answer.
use mathlib.Core.Path.{◌≡◌, refl, sym, ◌∙◌, ap}
use mathlib.Core.List.{List, [], ◌∷◌, ◌++◌, append-nil}
use Rattle.std.specs.Prelude.{Option, Some}
use mathlib.Core.Bool.{true}
use Prim.Native.Nat.{ℕ}
use Rattle.rules.specs.Bytes.{Text, same}
use Rattle.rules.specs.Text.{bytes}
use Rattle.rules.specs.Maybe.{◌>>=◌}
use Rattle.rules.specs.Names.{variable_token}
use Rattle.rules.specs.Tree.{Tree, variable, size}
use Rattle.rules.specs.Writing.{render}
use Rattle.rules.specs.Reading.{parse}
use Rattle.rules.specs.Lines.{lines, after_key, value}
use Rattle.rules.specs.Decimal.{decimal}
use Rattle.rules.specs.Substitution.{Binding}
use Rattle.rules.specs.Solving.{Verdict, solved, failed, unsupported, Answer}
use Rattle.rules.specs.Answer.{line, binding_lines, verdict_lines}
use Rattle.rules.specs.Tidy.{a_variable}
use Rattle.rules.specs.AnswerReading.{variable_name, read_number, read_bindings, read_verdict, read_answer}
use Rattle.laws.proofs.Sheets.Clean.{Clean, number_clean, variable_clean, render_clean, two_lines}
use Rattle.laws.proofs.Basics.Numerals.{decimal_number, decimal_read}
use Rattle.laws.proofs.Sheets.BuiltRun.{BuiltBindings, Within, Writable}
use Rattle.laws.proofs.Reading.RoundTrip.{reread}

-- the lines of bindings
abbrev binding_texts : List Binding → List Text
binding_texts [] = []
binding_texts (b ∷ bs) = (bytes "key=" ++ b.0) ∷ (bytes "value=" ++ render b.1) ∷ binding_texts bs

key_clean : (x : Text) → Clean x → Clean (bytes "key=" ++ x)
key_clean x c = (refl, (refl, (refl, (refl, c))))

value_clean : (x : Text) → Clean x → Clean (bytes "value=" ++ x)
value_clean x c = (refl, (refl, (refl, (refl, (refl, (refl, c))))))

bindings_lines : (bs : List Binding) → BuiltBindings bs → lines (binding_lines bs) ≡ Some (binding_texts bs)
unfolding binding_lines lines
bindings_lines [] h = refl
bindings_lines (b ∷ bs) h =
    two_lines (bytes "key=" ++ b.0) (bytes "value=" ++ render b.1) (binding_lines bs) (binding_texts bs)
    (key_clean b.0 (variable_clean b.0 h.0)) (value_clean (render b.1) (render_clean h.1)) (bindings_lines bs h.2)

key_read : (x : Text) → variable_token x ≡ true → parse x ≡ Some (variable x)
unfolding render size
key_read x h = reread (variable x) (a_variable h) refl

bindings_read : (bs : List Binding) → BuiltBindings bs → Within bs → read_bindings (binding_texts bs) ≡ Some bs
unfolding read_bindings after_key
bindings_read [] h w = refl
bindings_read (b ∷ bs) h w =
    ap (λ (o : Option Tree). o >>= λ k. variable_name k >>= λ x. parse (render b.1) >>= λ v. read_bindings (binding_texts bs) >>= λ cs. Some ((x, v) ∷ cs)) (key_read b.0 h.0)
    ∙ ap (λ (o : Option Tree). o >>= λ v. read_bindings (binding_texts bs) >>= λ cs. Some ((b.0, v) ∷ cs)) (reread b.1 h.1 w.0)
    ∙ ap (λ (o : Option (List Binding)). o >>= λ cs. Some ((b.0, b.1) ∷ cs)) (bindings_read bs h.2 w.1)

-- what is done with the lines
abbrev from_lines : Option (List Text) → Option Answer
from_lines o =
    o >>= λ ls. value (bytes "verdict=") ls >>= λ p. value (bytes "spent=") p.1 >>= λ q.
    read_number q.0 >>= λ n. read_verdict p.0 q.1 >>= λ v. Some (v, n)

spent_clean : (n : ℕ) → Clean (bytes "spent=" ++ decimal n)
spent_clean n = (refl, (refl, (refl, (refl, (refl, (refl, number_clean (decimal n) (decimal_number n)))))))

from_texts : (name : Text) (n : ℕ) (ls : List Text) (v : Verdict) → read_verdict name ls ≡ Some v
    → from_lines (Some ((bytes "verdict=" ++ name) ∷ (bytes "spent=" ++ decimal n) ∷ ls)) ≡ Some (v, n)
unfolding value after_key
from_texts name n ls v e =
    ap (λ (o : Option ℕ). o >>= λ m. read_verdict name ls >>= λ w. Some (w, m)) (decimal_read n)
    ∙ ap (λ (o : Option Verdict). o >>= λ w. Some (w, n)) e

verdict_read : (name : Text) (n : ℕ) (s : Text) (ls : List Text) (v : Verdict) → Clean (bytes "verdict=" ++ name) → lines s ≡ Some ls → read_verdict name ls ≡ Some v
    → read_answer ((line (bytes "verdict=") name ++ line (bytes "spent=") (decimal n)) ++ s) ≡ Some (v, n)
unfolding read_answer
verdict_read name n s ls v c e r =
    ap from_lines (two_lines (bytes "verdict=" ++ name) (bytes "spent=" ++ decimal n) s ls c (spent_clean n) e) ∙ from_texts name n ls v r

no_lines : lines [] ≡ Some []
unfolding lines
no_lines = refl

pub answer_read : (v : Verdict) (n : ℕ) → Writable v → read_answer (verdict_lines (v, n)) ≡ Some (v, n)
unfolding verdict_lines read_verdict same
answer_read (solved bs) n w =
    verdict_read (bytes "solved") n (binding_lines bs) (binding_texts bs) (solved bs)
    (refl, (refl, (refl, (refl, (refl, (refl, (refl, (refl, (refl, (refl, (refl, (refl, (refl, (refl, tt))))))))))))))
    (bindings_lines bs w.0) (ap (λ (o : Option (List Binding)). o >>= λ cs. Some (solved cs)) (bindings_read bs w.0 w.1))
answer_read failed n w =
    ap read_answer (sym (append-nil (line (bytes "verdict=") (bytes "failed") ++ line (bytes "spent=") (decimal n))))
    ∙ verdict_read (bytes "failed") n [] [] failed
    (refl, (refl, (refl, (refl, (refl, (refl, (refl, (refl, (refl, (refl, (refl, (refl, (refl, (refl, tt)))))))))))))) no_lines refl
answer_read unsupported n w =
    ap read_answer (sym (append-nil (line (bytes "verdict=") (bytes "unsupported") ++ line (bytes "spent=") (decimal n))))
    ∙ verdict_read (bytes "unsupported") n [] [] unsupported
    (refl, (refl, (refl, (refl, (refl, (refl, (refl, (refl, (refl, (refl, (refl, (refl, (refl, (refl, (refl, (refl, (refl, (refl, (refl, tt))))))))))))))))))) no_lines refl
