-- What waiting pairs weigh: at most their nodes; pushing children lowers the weight by the cells of the pairs pushed, and what two sums
-- leave weighs less than they did by the cells of the summands left, and has fewer nodes.
use Prim.Native.Nat.{ℕ, ◌+◌, ◌*◌, ◌≤◌, ◌<◌}
use native.Mathlib.Omega.{arith}
use mathlib.Core.Path.{◌≡◌, refl, sym, ◌∙◌, ap, subst}
use mathlib.Core.Bool.{Bool, true, false, cond, true≢false, false≢true}
use mathlib.Core.List.{List, [], ◌∷◌, ◌++◌}
use lib.Dec.{eqb}
use lib.ListN.{length}
use Rattle.rules.specs.Bytes.{Text, same}
use Rattle.rules.specs.Names.{variable_token}
use Rattle.rules.specs.Tree.{Tree, variable, atom, apply, Trees, none, more, head, children, size, sizes, tamtplus, plus}
use Rattle.rules.specs.Substitution.{Pair, size_pairs}
use Rattle.rules.specs.Sums.{unless_sum, summands, summands_of, rebuild}
use Rattle.rules.specs.Solving.{Rest, emptied, mismatch, stuck, equation, cancel, remainder, cancel_sums, push_children}
use Rattle.rules.specs.Tidy.{Built, a_variable, an_atom, a_leaf, a_list, a_sum}
use Rattle.laws.specs.Memory.{load, weight, pushed, kept_summands}
use Rattle.laws.proofs.Basics.Tests.{and_right, same_eq}
use Rattle.laws.proofs.Equality.Summands.{AllOf, all_append, all_unless}
use Rattle.laws.proofs.Sheets.BuiltMatch.{mass, summands_mass, rebuild_mass, cancel_mass, cancel_mass_left}
pub use Rattle.laws.proofs.Sheets.BuiltMatch.{Upto}
use Rattle.laws.proofs.Solving.Keeping.{other_way, cancel_keep}

pub size_some : (t : Tree) → 1 ≤ size t
unfolding size
size_some (variable x) = omega arith
size_some (atom c d) = omega arith
size_some (apply f ts) = omega arith

cond_upto : (b : Bool) (n : ℕ) → cond b n 0 ≤ n
cond_upto true n = omega arith
cond_upto false n = omega arith

-- a pair weighs less than its nodes
pub load_size : (t u : Tree) → load t u + 2 ≤ size t + size u
unfolding load size
load_size (variable x) u = omega (arith, size_some u)
load_size (atom c d) u = omega (arith, size_some u)
load_size (apply f ts) (variable y) = omega arith
load_size (apply f ts) (atom c d) = omega arith
load_size (apply f ts) (apply g us) = omega (arith, cond_upto (same f g) (sizes ts + sizes us))

pub weight_size : (ps : List Pair) → weight ps ≤ size_pairs ps
unfolding weight size_pairs
weight_size [] = omega arith
weight_size (p ∷ ps) = omega (arith, weight_size ps, load_size p.0 p.1)

-- Children

push_paid : (ts us : Trees) (ps : List Pair) → 2 * pushed ts us + weight (push_children ts us ps) ≤ sizes ts + sizes us + weight ps
unfolding pushed push_children weight size
push_paid none us ps = omega arith
push_paid (more t ts) none ps = omega arith
push_paid (more t ts) (more u us) ps = omega (arith, push_paid ts us ps, load_size t u)

-- the children of two trees with the same head, at two cells a pair
pub push_weight : (l r : Tree) (ps : List Pair) → same (head l) (head r) ≡ true
    → 2 * pushed (children l) (children r) + weight (push_children (children l) (children r) ps) ≤ weight ((l, r) ∷ ps)
unfolding head children pushed push_children weight load
push_weight (variable x) r ps e = omega arith
push_weight (atom c d) r ps e = omega arith
push_weight (apply f none) (variable y) ps e = omega arith
push_weight (apply f none) (atom c d) ps e = omega arith
push_weight (apply f (more t ts)) (variable y) ps e = omega arith
push_weight (apply f (more t ts)) (atom c d) ps e = omega arith
push_weight (apply f ts) (apply g us) ps e = let h = push_paid ts us ps in let k = ap (λ (b : Bool). cond b (sizes ts + sizes us) 0) e in omega arith

-- Sums

-- no sum
abbrev pub Single : Tree → Type 0
Single (variable x) = Unit {0}
Single (atom c d) = Unit {0}
Single (apply f ts) = same f tamtplus ≡ false

single_unless : (f : Text) (ts : Trees) (us : List Tree) → AllOf Single us → (b : Bool) → same f tamtplus ≡ b → AllOf Single (unless_sum b us (apply f ts))
single_unless f ts us h true e = h
single_unless f ts us h false e = (e, tt)

mutual
  unfolding summands

  pub summands_single : (t : Tree) → AllOf Single (summands t)
  summands_single (variable x) = (tt, tt)
  summands_single (atom c d) = (tt, tt)
  summands_single (apply f ts) = single_unless f ts (summands_of ts) (summands_of_single ts) (same f tamtplus) refl

  summands_of_single : (ts : Trees) → AllOf Single (summands_of ts)
  summands_of_single none = tt
  summands_of_single (more t ts) = all_append Single (summands t) (summands_of ts) (summands_single t) (summands_of_single ts)

-- a summand against a sum weighs nothing, on either side
pub load_left : (k : Tree) (ts : Trees) → Single k → load k (apply tamtplus ts) ≡ 0
unfolding load
load_left (variable x) ts h = refl
load_left (atom c d) ts h = refl
load_left (apply f us) ts h = ap (λ (b : Bool). cond b (sizes us + sizes ts) 0) h

pub load_right : (k : Tree) (ts : Trees) → Single k → load (apply tamtplus ts) k ≡ 0
unfolding load
load_right (variable x) ts h = refl
load_right (atom c d) ts h = refl
load_right (apply f us) ts h = ap (λ (b : Bool). cond b (sizes ts + sizes us) 0) (other_way f tamtplus h)

-- sizes of summands: none is larger than the tree, and in a sum each is smaller by two nodes
all_upto : (m n : ℕ) → m ≤ n → (ts : List Tree) → AllOf (Upto m) ts → AllOf (Upto n) ts
all_upto m n h [] k = tt
all_upto m n h (t ∷ ts) k = (let i = k.0 in omega arith, all_upto m n h ts k.1)

mutual
  unfolding summands size

  summands_upto : (t : Tree) → AllOf (Upto (size t)) (summands t)
  summands_upto (variable x) = (omega arith, tt)
  summands_upto (atom c d) = (omega arith, tt)
  summands_upto (apply f ts) =
      all_unless (Upto (1 + sizes ts)) (same f tamtplus) (summands_of ts) (apply f ts) (all_upto (sizes ts) (1 + sizes ts) (omega arith) (summands_of ts) (summands_of_upto ts)) (omega arith)

  pub summands_of_upto : (ts : Trees) → AllOf (Upto (sizes ts)) (summands_of ts)
  summands_of_upto none = tt
  summands_of_upto (more t ts) =
      all_append (Upto (size t + sizes ts)) (summands t) (summands_of ts)
      (all_upto (size t) (size t + sizes ts) (omega arith) (summands t) (summands_upto t))
      (all_upto (sizes ts) (size t + sizes ts) (omega arith) (summands_of ts) (summands_of_upto ts))

abbrev Under : ℕ → Tree → Type 0
Under n t = size t + 2 ≤ n

sum_under : (a b : Tree) → AllOf (Under (size (plus a b))) (summands (plus a b))
unfolding summands size same
sum_under a b =
    all_append (Under (size (plus a b))) (summands a) (summands b ++ []) (under (summands a) (size a) (omega (arith, size_some b)) (summands_upto a))
    (all_append (Under (size (plus a b))) (summands b) [] (under (summands b) (size b) (omega (arith, size_some a)) (summands_upto b)) tt)
  where
    under : (ts : List Tree) (m : ℕ) → m + 2 ≤ size (plus a b) → AllOf (Upto m) ts → AllOf (Under (size (plus a b))) ts
    under [] m h k = tt
    under (t ∷ ts) m h k = (let i = k.0 in omega arith, under ts m h k.1)

mass_length : (ts : List Tree) → 2 * length ts ≤ mass ts
mass_length [] = omega arith
mass_length (t ∷ ts) = omega (arith, mass_length ts, size_some t)

-- the trees with that head: sums of two, and the name alone, which has no summand
data SumView : Tree → Type 0 where
  of_none : SumView (apply tamtplus none)
  of_two : {a b : Tree} → Built (plus a b) → SumView (plus a b)

sum_view : {t : Tree} → Built t → same (head t) tamtplus ≡ true → SumView t
unfolding head same variable_token
sum_view (a_variable {x} v) e = absurd (false≢true (subst (λ (n : Text). variable_token n ≡ true) (same_eq x tamtplus e) v))
sum_view (an_atom {c} {d} l n) e = absurd (false≢true (and_right (eqb c 116) false e))
sum_view (a_leaf {f} w) e = subst (λ (n : Text). SumView (apply n none)) (sym (same_eq f tamtplus e)) of_none
sum_view (a_list w l q b bs) e = absurd (true≢false (sym e ∙ q))
sum_view (a_sum p q) e = of_two (a_sum p q)

-- what is left of two sums, at two cells a summand, and its nodes
module _ (x y : ℕ) where
  abbrev Paid : ℕ → Rest → Type 0
  Paid n emptied = Unit {0}
  Paid n mismatch = Unit {0}
  Paid n stuck = Unit {0}
  Paid n (equation a b) = (2 * n + load a b ≤ x + y) × (size a + size b < x + y)

  remainder_paid : (b : Bool) (ks os : List Tree) → AllOf (Under x) ks → AllOf (Under y) os → AllOf Single ks → AllOf Single os → mass ks ≤ x + 1 → mass os ≤ y + 1
      → Paid (length ks + length os) (remainder b ks os)
  unfolding rebuild
  remainder_paid b [] [] p q s t i j = tt
  remainder_paid b [] (o ∷ os) p q s t i j = tt
  remainder_paid b (k ∷ ks) [] p q s t i j = tt
  remainder_paid b (k ∷ []) (o ∷ []) p q s t i j = let u = p.0 in let v = q.0 in (omega (arith, load_size k o), omega arith)
  remainder_paid b (k ∷ []) (o ∷ n ∷ os) p q s t i j =
      let u = p.0 in (
        omega (arith, load_left k (more o (more (rebuild n os) none)) s.0, mass_length (o ∷ n ∷ os), size_some k),
        omega (arith, rebuild_mass o (n ∷ os)),
      )
  remainder_paid true (k ∷ n ∷ ks) (o ∷ []) p q s t i j =
      let u = q.0 in (
        omega (arith, load_right o (more k (more (rebuild n ks) none)) t.0, mass_length (k ∷ n ∷ ks), size_some o),
        omega (arith, rebuild_mass k (n ∷ ks)),
      )
  remainder_paid false (k ∷ n ∷ ks) (o ∷ []) p q s t i j = tt
  remainder_paid true (k ∷ n ∷ ks) (o ∷ m ∷ os) p q s t i j = tt
  remainder_paid false (k ∷ n ∷ ks) (o ∷ m ∷ os) p q s t i j = tt

  left_none : (b : Bool) (ks os : List Tree) (n : ℕ) → mass ks ≤ 0 → Paid n (remainder b ks os)
  left_none b [] [] n h = tt
  left_none b [] (o ∷ os) n h = tt
  left_none b (k ∷ ks) os n h = absurd (omega arith)

  right_none : (b : Bool) (ks os : List Tree) (n : ℕ) → mass os ≤ 0 → Paid n (remainder b ks os)
  right_none b [] [] n h = tt
  right_none b (k ∷ ks) [] n h = tt
  right_none b ks (o ∷ os) n h = absurd (omega arith)

sums_paid : (b : Bool) (test : Tree → Tree → Bool) {l r : Tree} → SumView l → SumView r → Paid (size l) (size r) (kept_summands test l r) (cancel_sums b test l r)
unfolding cancel_sums kept_summands summands same size
sums_paid b test {r = r} of_none v =
    let h = cancel_mass_left test [] (summands r) in
    left_none 1 (size r) b (cancel test [] (summands r)).0 (cancel test [] (summands r)).1 _ h
sums_paid b test {l} (of_two p) of_none =
    let h = cancel_mass test (summands l) [] in
    right_none (size l) 1 b (cancel test (summands l) []).0 (cancel test (summands l) []).1 _ h
sums_paid b test (of_two {a} {b = c} p) (of_two {a = d} {b = e} q) =
    let ts = summands (plus a c) in
    let us = summands (plus d e) in
    let m = size (plus a c) in
    let n = size (plus d e) in
    let u = cancel_keep (Under m) (Under n) test ts us (sum_under a c) (sum_under d e) in
    let s = cancel_keep Single Single test ts us (summands_single (plus a c)) (summands_single (plus d e)) in
    let i = cancel_mass_left test ts us in
    let j = cancel_mass test ts us in
    let f = summands_mass p in
    let g = summands_mass q in
    remainder_paid m n b (cancel test ts us).0 (cancel test ts us).1 u.0 u.1 s.0 s.1 (omega arith) (omega arith)

sum_load : {l r : Tree} → SumView l → SumView r → load l r + 2 ≡ size l + size r
unfolding load size same
sum_load of_none of_none = refl
sum_load of_none (of_two q) = omega arith
sum_load (of_two p) of_none = omega arith
sum_load (of_two p) (of_two q) = omega arith

module _ (b : Bool) (test : Tree → Tree → Bool) (l r : Tree) (bl : Built l) (br : Built r) (e : same (head l) tamtplus ≡ true) (f : same (head r) tamtplus ≡ true)
    (x y : Tree) (g : cancel_sums b test l r ≡ equation x y) where
  sum_paid : Paid (size l) (size r) (kept_summands test l r) (equation x y)
  sum_paid = subst (Paid (size l) (size r) (kept_summands test l r)) g (sums_paid b test (sum_view bl e) (sum_view br f))

  -- what two sums leave; of one summand against m others, `kept_summands` is m + 1
  pub sum_weight : 2 * kept_summands test l r + load x y ≤ load l r + 2
  sum_weight = let h = sum_paid.0 in omega (arith, sum_load (sum_view bl e) (sum_view br f))

  pub sum_nodes : size x + size y < size l + size r
  sum_nodes = sum_paid.1
