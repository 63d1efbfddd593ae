-- A member's pairs in cells, and what their match says; the loop over the members.
use Prim.Native.Nat.{ℕ, ◌<◌, ◌≤◌}
use mathlib.Core.Path.{◌≡◌, refl, sym, ap, ap₂, subst, ◌∙◌}
use mathlib.Core.List.{List, [], ◌∷◌, ◌++◌, map}
use lib.ListN.{length}
use native.Mathlib.Omega.{arith}
use native.Mathlib.Decide.{dec_lt}
use Rattle.rules.specs.Bytes.{Text}
use Rattle.rules.specs.Tree.{Tree, variable, atom, apply, Trees, none, more, children}
use Rattle.rules.specs.Substitution.{Binding, Pair, lookup, flatten}
use Rattle.tree.specs.Cells.{kind_of, first_of, next_of, tree_at, trees_at}
use Rattle.tree.specs.Arena.{Arena}
use Rattle.tree.proofs.Decoding.{Kind, application, a_variable, an_atom, kind, trees_none, trees_more, tree_variable, tree_atom, tree_apply}
use Rattle.substitution.specs.Bindings.{bindings_of, bindings_at}
use Rattle.variables.specs.Pairing.{paired, flatten_before}
use Rattle.unifier.specs.Matched.{Matched}
use Rattle.families.specs.Generalizing.{member_of, member_pairs, IsMember, AllMatched}

-- ---- lists of pairs

pub paired_map : (ms bs : List Binding) (xs : List Text) → paired ms bs xs ≡ map {B = Pair} (λ x. (lookup ms x, lookup bs x)) xs
unfolding paired
paired_map ms bs [] = refl
paired_map ms bs (x ∷ xs) = ap (λ (ps : List Pair). (lookup ms x, lookup bs x) ∷ ps) (paired_map ms bs xs)

before_append : (ps qs : List Pair) → flatten_before ps (flatten qs) ≡ flatten (ps ++ qs)
unfolding flatten_before flatten
before_append [] qs = refl
before_append (p ∷ ps) qs = ap (λ (ts : Trees). more p.0 (more p.1 ts)) (before_append ps qs)

one_pair : (a b : Tree) → more a (more b none) ≡ flatten ((a, b) ∷ [])
unfolding flatten
one_pair a b = refl

pub member_paired : (xs : List Text) (t : Tree) (ms bs : List Binding) (value : Tree)
    → flatten_before (paired ms bs xs) (more t (more value none)) ≡ flatten (member_pairs xs (t, ms) bs value)
unfolding member_pairs
member_paired xs t ms bs value =
    ap (λ (ps : List Pair). flatten_before ps (more t (more value none))) (paired_map ms bs xs)
    ∙ ap (flatten_before (map {B = Pair} (λ x. (lookup ms x, lookup bs x)) xs)) (one_pair t value)
    ∙ before_append (map {B = Pair} (λ x. (lookup ms x, lookup bs x)) xs) ((t, value) ∷ [])

-- ---- the cells of a member

abbrev Applied : Tree → Type 0
Applied (variable x) = ⊥
Applied (atom c d) = ⊥
Applied (apply f ts) = Unit {0}

abbrev Filled : Trees → Type 0
Filled none = ⊥
Filled (more t ts) = Unit {0}

first_tree : {t u : Tree} {ts us : Trees} → more t ts ≡ more u us → (t ≡ u) × (ts ≡ us)
first_tree e = (cc, cc)

module _ {s : Text} {w : List ℕ} {n : ℕ} (member : ℕ) (a : Arena s w n) (p : 0 < member) (q : member < n) (h : IsMember (tree_at s w member)) where
  applied : Applied (tree_at s w member)
  applied = subst Applied (sym h.is) tt

  is_applied : kind_of w member ≡ 0
  is_applied = go (kind (kind_of w member))
    where
      go : Kind (kind_of w member) → kind_of w member ≡ 0
      go (application e) = e
      go (a_variable x y) = absurd (subst Applied (tree_variable s w member x y) applied)
      go (an_atom x) = absurd (subst Applied (tree_atom s w member x) applied)

  inner : trees_at s w (first_of w member) ≡ more h.own h.entries
  unfolding children
  inner = ap children (sym (tree_apply s w member is_applied) ∙ h.is)

  module _ (own : ℕ) (e : own ≡ first_of w member) where
    inner_own : trees_at s w own ≡ more h.own h.entries
    inner_own = ap (trees_at s w) e ∙ inner

    pub own_some : 0 < own
    own_some = elim (dec_lt 0 own) [ yes l ↦ l | no l ↦ absurd (subst Filled (sym inner_own ∙ trees_none s w own (omega arith)) tt) ]

    pub own_inside : own < n
    own_inside = omega (arith, a.links.first member p q)

    own_parts : (tree_at s w own ≡ h.own) × (trees_at s w (next_of w own) ≡ h.entries)
    own_parts = first_tree (sym (trees_more s a.links own own_some own_inside) ∙ inner_own)

    module _ (entries : ℕ) (f : entries ≡ next_of w own) where
      pub entries_inside : entries < n
      entries_inside = omega (arith, a.links.next own own_some own_inside, own_inside)

      pub member_is : member_of (tree_at s w member) ≡ (tree_at s w own, bindings_at s w entries)
      unfolding member_of
      member_is =
          ap member_of h.is
          ∙ ap₂ (λ (t : Tree) (ts : Trees). (t, bindings_of ts)) (sym own_parts.0) (sym (ap (trees_at s w) f ∙ own_parts.1))

-- ---- all members

pub matched_same : {s : Text} {w v : List ℕ} {n m : ℕ} {qs : List Pair} → length v ≡ length w → m ≤ n → Matched s w n qs → Matched s v m qs
matched_same e l r = let x = r.room in record { fit = r.fit; few = r.few; room = (omega (arith, x.0), omega (arith, x.1)) }

pub all_matched_same : (s : Text) (w v : List ℕ) (n m : ℕ) (xs : List Text) (bs : List Binding) (value : Tree) (ts : Trees) → length v ≡ length w → m ≤ n
    → AllMatched s w n xs bs value ts → AllMatched s v m xs bs value ts
all_matched_same s w v n m xs bs value none e l h = tt
all_matched_same s w v n m xs bs value (more t ts) e l h = (h.0, matched_same e l h.1, all_matched_same s w v n m xs bs value ts e l h.2)
