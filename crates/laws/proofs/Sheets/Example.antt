-- The promise on one sheet, P1 of the scope: its pair is tidy, so its answer is a most general unifier, also as the text that
-- the call writes, which is the same with more fuel.
use mathlib.Core.Path.{◌≡◌, refl, ap}
use mathlib.Core.Bool.{cond, ◌||◌}
use mathlib.Core.List.{List, [], ◌∷◌}
use Rattle.std.specs.Prelude.{Some}
use Prim.Native.Nat.{ℕ}
use Prim.Native.String.{String}
use native.Mathlib.Omega.{arith}
use Rattle.rules.specs.Bytes.{Text, same}
use Rattle.rules.specs.Text.{bytes}
use Rattle.rules.specs.Names.{word, number, variable_token, letter, letter_name}
use Rattle.rules.specs.Tree.{Tree, variable, atom, apply, none, more, tamtplus}
use Rattle.rules.specs.Substitution.{Binding, Pair}
use Rattle.rules.specs.declared.Sort.TheVariants.{Msg, Pub}
use Rattle.rules.specs.Sorts.{variable_sort}
use Rattle.rules.specs.Solving.{Answer, solved, unify}
use Rattle.rules.specs.Tidy.{Arity, TidyPairs}
use Rattle.rules.specs.Meaning.{MostGeneral}
use Rattle.rules.specs.Sheet.{asks_unify, read_sheet}
use Rattle.rules.specs.Answer.{read_pairs}
use Rattle.rules.specs.Decimal.{number_up_to}
use Rattle.rules.specs.Lines.{lines}
use Rattle.rules.specs.Call.{passed, call}
use Rattle.rules.specs.AnswerReading.{read_answer, Answered}
use Rattle.rules.specs.Alike.{AlikeButFuel}
use Rattle.rules.specs.Derivation.{UnifyDerives}
use Rattle.rules.specs.Table.{text}
use Rattle.laws.proofs.Promises.{unify_solved, unify_sheet_solved, unify_sheet_derived, fuel_alike}
use Rattle.laws.proofs.Sheets.Alike.{alike_answer}

abbrev g : Text
g = bytes "g"

abbrev pair : Text
pair = bytes "tamXCpair"

abbrev x0 : Text
x0 = bytes "x0:Msg"

abbrev x1 : Text
x1 = bytes "x1:Pub"

-- `c(0)`
abbrev c0 : Tree
c0 = atom 99 (48 ∷ [])

-- `p(2)`
abbrev p2 : Tree
p2 = atom 112 (50 ∷ [])

abbrev two : Text → Tree → Tree → Tree
two f a b = apply f (more a (more b none))

abbrev pairs : List Pair
pairs = (two g (variable x0) (variable x1), two g (two pair (variable x1) c0) p2) ∷ []

abbrev bindings : List Binding
bindings = (x0, two pair p2 c0) ∷ (x1, p2) ∷ []

answer : unify 4 pairs ≡ (solved bindings, 3)
unfolding unify
answer = refl

-- the counts of arguments
arity : Text → ℕ
arity f = cond (letter_name f) 0 (cond (same f tamtplus || same f g || same f pair) 2 0)

counts : Arity arity
unfolding arity letter_name same
counts = record { sums = refl; ones = refl; letters = λ f e. rw e }

tidy : TidyPairs arity pairs
unfolding arity letter_name same variable_sort variable_token word number letter
tidy = (
  (refl, refl, ((Msg, refl, refl), ((Pub, refl, refl), tt))),
  (refl, refl, ((refl, refl, ((Pub, refl, refl), ((refl, refl), tt))), ((refl, refl), tt))),
  tt,
)

most_general : MostGeneral arity pairs bindings
most_general = unify_solved arity counts 4 pairs tidy bindings (ap (λ (a : Answer). a.0) answer)

-- the same from the sheet's bytes and the answer's
abbrev written : Text
written = text ("verdict=solved" ∷ "spent=3" ∷ "key=x0:Msg" ∷ "value=tamXCpair(p(2),c(0))" ∷ "key=x1:Pub" ∷ "value=p(2)" ∷ [])

abbrev sheet : String → Text
sheet fuel = text ("kind=unify" ∷ fuel ∷ "left=g(x0:Msg,x1:Pub)" ∷ "right=g(tamXCpair(x1:Pub,c(0)),p(2))" ∷ [])

called : call (sheet "fuel=4") 2000000 1000 ≡ passed written
unfolding call
called = refl

answered : Answered asks_unify 4 pairs written
unfolding read_sheet read_pairs
answered = record {
  sheet = sheet "fuel=4";
  words = 2000000;
  room = 1000;
  texts = (bytes "g(x0:Msg,x1:Pub)", bytes "g(tamXCpair(x1:Pub,c(0)),p(2))") ∷ [];
  reads = refl;
  pairs = refl;
  answered = called;
}

read : read_answer written ≡ Some (solved bindings, 3)
unfolding read_answer
read = refl

most_general_sheet : MostGeneral arity pairs bindings
most_general_sheet = unify_sheet_solved arity counts tidy 3 answered bindings read

-- it is derived by the rules
derived_sheet : UnifyDerives 4 pairs (solved bindings) 3
derived_sheet = (unify_sheet_derived answered (solved bindings) 3).0 read

-- with more fuel the answer has the same bytes
alike : AlikeButFuel (sheet "fuel=4") (sheet "fuel=65536") 4 65536
unfolding lines number_up_to
alike = record {
  kind = bytes "kind=unify";
  after = bytes "left=g(x0:Msg,x1:Pub)" ∷ bytes "right=g(tamXCpair(x1:Pub,c(0)),p(2))" ∷ [];
  less_digits = bytes "4";
  more_digits = bytes "65536";
  less_number = refl;
  more_number = refl;
  less_lines = refl;
  more_lines = refl;
}

same_bytes : (words room : ℕ) (b : Text) → call (sheet "fuel=65536") words room ≡ passed b → b ≡ written
same_bytes words room b e =
    alike_answer
    (((fuel_alike (sheet "fuel=4") (sheet "fuel=65536") 4 65536 alike (omega arith) 2000000 1000 written called
    (record { verdict = solved bindings; spent = 3; reads = read; decided = tt })).2 words room (passed b)).0 e)
