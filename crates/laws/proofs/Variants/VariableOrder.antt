-- The variables that cover and complete go through, in trees as reading builds them: each differs from the later ones, and is a
-- variable's token, which holds a colon.
use Prim.Native.Nat.{ℕ, zero, suc, ◌<◌}
use native.Mathlib.Omega.{arith}
use mathlib.Core.Path.{◌≡◌, refl, sym, ◌∙◌}
use mathlib.Core.Bool.{Bool, true, false, true≢false}
use mathlib.Core.List.{List, [], ◌∷◌, Memᴰ}
use Rattle.rules.specs.Bytes.{Text, same, upto}
use Rattle.rules.specs.Text.{count_of}
use Rattle.rules.specs.Names.{variable_token}
use Rattle.rules.specs.Tree.{Tree, variable, atom, apply, Trees, none, more}
use Rattle.rules.specs.Substitution.{Pair}
use Rattle.rules.specs.Cover.{insert_once, variables, variables_in, variables_of}
use Rattle.rules.specs.Families.{Ascending}
use Rattle.rules.specs.Tidy.{Built, Builts}
use Rattle.laws.proofs.Basics.Tests.{same_eq}
use Rattle.laws.proofs.Basics.Order.{upto_equal}
use Rattle.laws.proofs.Equality.Building.{built_first, built_rest, built_children}
use Rattle.laws.proofs.Basics.Spelling.{variable_colon}
use Rattle.laws.proofs.Sheets.BuiltRun.{BuiltPairs, name_token}
use Rattle.laws.proofs.Variants.Targets.{All}
use Rattle.laws.proofs.Variants.Variables.{variables_order, variables_of_order}

pub all_each : {A : Type 0} (P Q : A → Type 0) → ((a : A) → P a → Q a) → (l : List A) → All P l → All Q l
all_each P Q f [] h = tt
all_each P Q f (a ∷ l) h = (f a h.0, all_each P Q f l h.1)

all_of : {A : Type 0} (P : A → Type 0) (l : List A) → ((a : A) → Memᴰ a l → P a) → All P l
all_of P [] f = tt
all_of P (a ∷ l) f = (f a (Memᴰ.head refl), all_of P l (λ b m. f b (Memᴰ.tail m)))

-- Each once

-- each differs from the later ones
abbrev pub EachOnce : List Text → Type 0
EachOnce [] = Unit {0}
EachOnce (x ∷ xs) = All (λ y. same x y ≡ false) xs × EachOnce xs

ascending_once : (xs : List Text) → Ascending xs → EachOnce xs
ascending_once [] h = tt
ascending_once (x ∷ xs) h = (all_of (λ y. same x y ≡ false) xs (λ y m. differs y (h.0 y m) (same x y) refl), ascending_once xs h.1)
  where
    differs : (y : Text) → upto y x ≡ false → (b : Bool) → same x y ≡ b → b ≡ false
    differs y e true f = absurd (true≢false (sym (upto_equal (sym (same_eq x y f))) ∙ e))
    differs y e false f = refl

-- Tokens

abbrev pub Token : Text → Type 0
Token x = variable_token x ≡ true

pub token_colon : (x : Text) → Token x → 0 < count_of 58 x
token_colon x h = go (count_of 58 x) (variable_colon x h)
  where
    go : (k : ℕ) → (k ≡ 0 → ⊥) → 0 < k
    go zero n = absurd (n refl)
    go (suc k) n = omega arith

insert_token : (x : Text) (xs : List Text) → Token x → All Token xs → All Token (insert_once x xs)
unfolding insert_once
insert_token x [] p h = (p, tt)
insert_token x (y ∷ ys) p h = go (same x y) (upto x y) (insert_token x ys p h.1)
  where
    go : (b c : Bool) → All Token (insert_once x ys)
        → All Token (elim b [ true ↦ y ∷ ys | false ↦ elim c [ true ↦ x ∷ y ∷ ys | false ↦ y ∷ insert_once x ys ] ])
    go true c k = h
    go false true k = (p, h)
    go false false k = (h.0, k)

mutual
  unfolding variables

  tree_tokens : (t : Tree) (found : List Text) → Built t → All Token found → All Token (variables t found)
  tree_tokens (variable x) found b h = insert_token x found (name_token b) h
  tree_tokens (atom c d) found b h = h
  tree_tokens (apply f ts) found b h = trees_tokens ts found (built_children b) h

  trees_tokens : (ts : Trees) (found : List Text) → Builts ts → All Token found → All Token (variables_in ts found)
  trees_tokens none found b h = h
  trees_tokens (more t ts) found b h = trees_tokens ts (variables t found) (built_rest b) (tree_tokens t found (built_first b) h)

pairs_tokens : (ps : List Pair) → BuiltPairs ps → All Token (variables_of ps)
unfolding variables_of
pairs_tokens [] b = tt
pairs_tokens (p ∷ ps) b = tree_tokens p.0 (variables p.1 (variables_of ps)) b.0 (tree_tokens p.1 (variables_of ps) b.1 (pairs_tokens ps b.2))

pub variables_once : (t : Tree) → Built t → EachOnce (variables t []) × All Token (variables t [])
variables_once t b = (ascending_once (variables t []) (variables_order t), tree_tokens t [] b tt)

pub variables_of_once : (ps : List Pair) → BuiltPairs ps → EachOnce (variables_of ps) × All Token (variables_of ps)
variables_of_once ps b = (ascending_once (variables_of ps) (variables_of_order ps), pairs_tokens ps b)
