-- A tree as reading builds it is Ac equal to its normal form with sums of two, since the order and the grouping of summands
-- are free.
use mathlib.Core.Path.{◌≡◌, refl, ◌∙◌, ap}
use mathlib.Core.Bool.{Bool, true, false}
use mathlib.Core.List.Permᴰ
use mathlib.Core.List.{List, [], ◌∷◌, ◌++◌, append-nil, length, map, map-append, Permᴰ}
use Rattle.rules.specs.Bytes.{Text, same}
use Rattle.rules.specs.Tree.{Tree, variable, atom, apply, Trees, none, more, tamtplus, plus}
use Rattle.rules.specs.Sums.{rebuild}
use Rattle.rules.specs.Equality.{Ac, reflexive, symmetric, transitive, congruent, swap, regroup, ACs, nil, both}
use Rattle.rules.specs.Tidy.{Built, a_variable, an_atom, a_leaf, a_list, a_sum, Builts}
use Rattle.laws.proofs.Equality.Normal.{Normal, many, single, trees, tree, pieces, sort_trees, norm, norms, sort_trees_perm}

-- an application of trees: a sum of two and two, where the test says so
unfoldable pub rebuilt : Bool → Text → List Tree → Tree
unfolding rebuild trees
rebuilt b n [] = apply n none
rebuilt true n (t ∷ l) = rebuild t l
rebuilt false n (t ∷ l) = apply n (trees (t ∷ l))

-- the tree with its sums written as sums of two
unfoldable mutual
  unfolding rebuilt

  pub binary : Tree → Tree
  binary (variable x) = variable x
  binary (atom c d) = atom c d
  binary (apply n ts) = rebuilt (same n tamtplus) n (binaries ts)

  pub binaries : Trees → List Tree
  binaries none = []
  binaries (more t ts) = binary t ∷ binaries ts

abbrev pub joined : List Tree → Tree
joined l = rebuilt true tamtplus l

plus_both : {a b c d : Tree} → Ac a c → Ac b d → Ac (plus a b) (plus c d)
plus_both p q = congruent (both p (both q nil))

pub of_path : {a b : Tree} → a ≡ b → Ac a b
of_path e = rw e reflexive

plus_first : {a b c : Tree} → Ac (plus a (plus b c)) (plus b (plus a c))
plus_first = transitive regroup (transitive (plus_both swap reflexive) (symmetric regroup))

-- lists whose sums are Ac equal
pub data SameSum : List Tree → List Tree → Type 0 where
  nils : SameSum [] []
  sums : {t u : Tree} {l m : List Tree} → Ac (rebuild t l) (rebuild u m) → SameSum (t ∷ l) (u ∷ m)

same_trans : {k l m : List Tree} → SameSum k l → SameSum l m → SameSum k m
same_trans nils nils = nils
same_trans (sums p) (sums q) = sums (transitive p q)

same_cons : {a b : Tree} {l m : List Tree} → a ≡ b → SameSum l m → SameSum (a ∷ l) (b ∷ m)
unfolding rebuild
same_cons e nils = sums (of_path e)
same_cons e (sums p) = sums (plus_both (of_path e) p)

same_swap : {a b c d : Tree} (l : List Tree) → a ≡ d → b ≡ c → SameSum (a ∷ b ∷ l) (c ∷ d ∷ l)
unfolding rebuild
same_swap [] e f = sums (transitive swap (plus_both (of_path f) (of_path e)))
same_swap (u ∷ l) e f = sums (transitive plus_first (plus_both (of_path f) (plus_both (of_path e) reflexive)))

pub same_perm : {l m : List Tree} → Permᴰ l m → SameSum l m
same_perm Permᴰ.nil = nils
same_perm (Permᴰ.cons e p) = same_cons e (same_perm p)
same_perm (Permᴰ.swap {l = l} e f) = same_swap l e f
same_perm (Permᴰ.trans p q) = same_trans (same_perm p) (same_perm q)

pub joined_same : {l m : List Tree} → SameSum l m → Ac (joined l) (joined m)
unfolding rebuilt
joined_same nils = reflexive
joined_same (sums p) = p

-- a sum of two sums
rebuild_append : (t : Tree) (l : List Tree) (u : Tree) (m : List Tree) → Ac (plus (rebuild t l) (rebuild u m)) (rebuild t (l ++ (u ∷ m)))
unfolding rebuild
rebuild_append t [] u m = reflexive
rebuild_append t (v ∷ l) u m = transitive (symmetric regroup) (plus_both reflexive (rebuild_append v l u m))

binaries_trees : (l : List Tree) → binaries (trees l) ≡ map binary l
unfolding binaries trees
binaries_trees [] = refl
binaries_trees (t ∷ l) = ap (λ (k : List Tree). binary t ∷ k) (binaries_trees l)

-- a normal tree is the sum of its pieces
pub whole : (c : Normal) → binary (tree c) ≡ joined (map binary (pieces c))
unfolding binary tree pieces same
whole (many l) = ap (rebuilt true tamtplus) (binaries_trees l)
whole (single t) = refl

-- the list is not empty
abbrev pub Filled : List Tree → Type 0
Filled l = (t : Tree) × (m : List Tree) × (l ≡ t ∷ m)

perm_filled : {l m : List Tree} → Permᴰ l m → Filled m → Filled l
perm_filled {l = []} p (t, k, e) = absurd (cc (Permᴰ.length-eq p ∙ ap length e))
perm_filled {l = x ∷ l} p f = (x, l, refl)

pub sort_filled : (l m : List Tree) → Filled l → Filled (sort_trees (l ++ m))
sort_filled l m (t, k, e) = perm_filled (sort_trees_perm (l ++ m)) (t, k ++ m, ap (λ (n : List Tree). n ++ m) e)

pub filled : {t : Tree} → Built t → Filled (pieces (norm t))
unfolding norm pieces same
filled (a_variable {x = x} p) = (variable x, [], refl)
filled (a_leaf {f = f} p) = (apply f none, [], refl)
filled (an_atom {c = c} {d = d} l p) = (atom c d, [], refl)
filled (a_list {f = f} {t = t} {ts = ts} p l e h hs) = rw e (apply f (trees (map tree (norm t ∷ norms ts))), [], refl)
filled (a_sum {a = a} {b = b} h k) = sort_filled (pieces (norm a)) (pieces (norm b) ++ []) (filled h)

sum_joined : (k j : List Tree) → Filled k → Filled j → Ac (plus (joined (map binary k)) (joined (map binary j))) (joined (map binary (k ++ (j ++ []))))
unfolding rebuilt
sum_joined k j (t, l, e) (u, m, f) =
    rw (append-nil j, e, f) (rw (map-append binary l (u ∷ m)) (rebuild_append (binary t) (map binary l) (binary u) (map binary m)))

-- a sum of two normal trees, sorted
ac_normal_sum : (c d : Normal) → Filled (pieces c) → Filled (pieces d)
    → Ac (plus (binary (tree c)) (binary (tree d))) (binary (tree (many (sort_trees (pieces c ++ (pieces d ++ []))))))
unfolding pieces
ac_normal_sum c d p q = rw (whole c, whole d, whole (many (sort_trees (pieces c ++ (pieces d ++ [])))))
    (transitive (sum_joined (pieces c) (pieces d) p q)
    (joined_same (same_perm (Permᴰ.map binary (Permᴰ.symm (sort_trees_perm (pieces c ++ (pieces d ++ []))))))))

mutual
  unfolding norm binary tree same

  pub ac_normal : {t : Tree} → Built t → Ac t (binary (tree (norm t)))
  ac_normal (a_variable p) = reflexive
  ac_normal (a_leaf p) = reflexive
  ac_normal (an_atom l p) = reflexive
  ac_normal (a_list p l e h hs) = rw e (rw e (congruent (both (ac_normal h) (acs_normal hs))))
  ac_normal (a_sum {a = a} {b = b} h k) = transitive (plus_both (ac_normal h) (ac_normal k)) (ac_normal_sum (norm a) (norm b) (filled h) (filled k))

  acs_normal : {ts : Trees} → Builts ts → ACs ts (trees (binaries (trees (map tree (norms ts)))))
  acs_normal Builts.nil = nil
  acs_normal (Builts.both h hs) = both (ac_normal h) (acs_normal hs)
