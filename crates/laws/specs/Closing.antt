-- What a term reads as, from its tree as it is written: sums nested to the right, letters around digits as atoms (01, "Reading").
use Rattle.std.specs.Prelude.{◌≡◌, true, false, ℕ, List, [], ◌∷◌}
use Rattle.rules.specs.Bytes.{Text, same}
use Rattle.rules.specs.Names.{number, letter, letter_name}
use Rattle.rules.specs.Tree.{Tree, variable, atom, apply, Trees, none, more, tamtplus, plus}

-- the sum of trees, first to last, nested to the right; one alone is itself
pub data RightNested : List Tree → Tree → Type 0 where
  alone : {a : Tree} → RightNested (a ∷ []) a
  before : {a b u : Tree} {l : List Tree} → RightNested (b ∷ l) u → RightNested (a ∷ b ∷ l) (plus a u)

abbrev pub list_of : Trees → List Tree
list_of none = []
list_of (more t ts) = t ∷ list_of ts

-- a letter stands around one run of digits, and a sum has two summands or more
mutual
  pub data ClosesTo : Tree → Tree → Type 0 where
    a_variable : {x : Text} → ClosesTo (variable x) (variable x)
    a_leaf : {f : Text} → ClosesTo (apply f none) (apply f none)
    an_atom : {c : ℕ} {d : Text} → letter c ≡ true → number d ≡ true → ClosesTo (apply (c ∷ []) (more (apply d none) none)) (atom c d)
    a_list : {f : Text} {t u : Tree} {ts us : Trees} → letter_name f ≡ false → same f tamtplus ≡ false → ClosesTo t u → AllCloseTo ts us
        → ClosesTo (apply f (more t ts)) (apply f (more u us))
    a_sum : {a b t u v : Tree} {ts us : Trees} → ClosesTo a t → ClosesTo b u → AllCloseTo ts us → RightNested (u ∷ list_of us) v
        → ClosesTo (apply tamtplus (more a (more b ts))) (plus t v)

  pub data AllCloseTo : Trees → Trees → Type 0 where
    nil : AllCloseTo none none
    both : {t u : Tree} {ts us : Trees} → ClosesTo t u → AllCloseTo ts us → AllCloseTo (more t ts) (more u us)
