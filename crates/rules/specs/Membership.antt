-- Which trees have which sorts, as a Maude module declares it: subsorts, and for each operator its arguments' sorts and its own
-- (01, "Sorts", after the Maude manual).
use Rattle.std.specs.Prelude.{◌≡◌, true, List, [], ◌∷◌, Some}
use Rattle.rules.specs.Bytes.{Text}
use Rattle.rules.specs.Text.{bytes}
use Rattle.rules.specs.Names.{letter}
use Rattle.rules.specs.Tree.{Tree, variable, atom, apply, Trees, none, more, count, tamtplus, plus}
use Rattle.rules.specs.declared.Sort.{Sort}
use Rattle.rules.specs.declared.Sort.TheVariants.{Pub, Fresh, Msg, TamNat, Node}
use Rattle.rules.specs.Sorts.{variable_sort, tone}

-- subsorts Pub Fresh TamNat < Msg .
pub data Subsort : Sort → Sort → Type 0 where
  pub_msg : Subsort Pub Msg
  fresh_msg : Subsort Fresh Msg
  tamnat_msg : Subsort TamNat Msg

-- the names that are no operator on messages: two are operators on naturals, three have none of the sorts
abbrev pub reserved : List Text
reserved = tamtplus ∷ tone ∷ bytes "list" ∷ bytes "cons" ∷ bytes "nil" ∷ []

abbrev pub NoneOf : List Text → Text → Type 0
NoneOf [] f = Unit {0}
NoneOf (g ∷ gs) f = (f ≡ g → ⊥) × NoneOf gs f

mutual
  pub data HasSort : Sort → Tree → Type 0 where
    -- var x : s .
    of_variable : {s : Sort} {x : Text} → variable_sort x ≡ Some s → HasSort s (variable x)
    -- op p : Nat -> Pub .  op f : Nat -> Fresh .  op c : Nat -> Msg .  op t : Nat -> TamNat .  op n : Nat -> Node .
    of_p : {d : Text} → HasSort Pub (atom 112 d)
    of_f : {d : Text} → HasSort Fresh (atom 102 d)
    of_c : {d : Text} → HasSort Msg (atom 99 d)
    of_t : {d : Text} → HasSort TamNat (atom 116 d)
    of_n : {d : Text} → HasSort Node (atom 110 d)
    -- op tamXCtone : -> TamNat .  op tamtplus : TamNat TamNat -> TamNat .
    of_tone : HasSort TamNat (apply tone none)
    of_sum : {a b : Tree} → HasSort TamNat a → HasSort TamNat b → HasSort TamNat (plus a b)
    -- op g : Msg ... Msg -> Msg .  for every other name g and every number of arguments
    of_other : {g : Text} {ts : Trees} → NoneOf reserved g → HaveSort Msg ts → HasSort Msg (apply g ts)
    of_subsort : {r s : Sort} {t : Tree} → Subsort r s → HasSort r t → HasSort s t

  pub data HaveSort : Sort → Trees → Type 0 where
    nil : {s : Sort} → HaveSort s none
    both : {s : Sort} {t : Tree} {ts : Trees} → HasSort s t → HaveSort s ts → HaveSort s (more t ts)

-- the counts of arguments that are declared: atoms have one of the five letters, `tamtplus` has two, `tamXCtone` none
abbrev mutual
  pub Ranked : Tree → Type 0
  Ranked (variable x) = Unit {0}
  Ranked (atom c d) = letter c ≡ true
  Ranked (apply f ts) = (f ≡ tamtplus → count ts ≡ 2) × (f ≡ tone → count ts ≡ 0) × Rankeds ts

  pub Rankeds : Trees → Type 0
  Rankeds none = Unit {0}
  Rankeds (more t ts) = Ranked t × Rankeds ts
