-- Taking two trees of one head apart into their children keeps the substitutions that make them equal.
use mathlib.Core.Path.{◌≡◌, refl, sym, ◌∙◌}
use mathlib.Core.Bool.{false}
use mathlib.Core.List.{List}
use mathlib.Core.Logic.{◌↔◌}
use Prim.Native.Nat.{ℕ}
use native.Mathlib.Omega.{arith}
use Rattle.rules.specs.Bytes.{Text, same}
use Rattle.rules.specs.Tree.{Tree, variable, atom, apply, Trees, none, more, head, children, count, tamtplus}
use Rattle.rules.specs.Substitution.{Substitution, substitute, substitutes, Pair}
use Rattle.rules.specs.Equality.{Ac, ACs, nil, both}
use Rattle.rules.specs.Solving.{push_children}
use Rattle.rules.specs.Tidy.{Arity, Tidy, Tidies, TidyPairs}
use Rattle.rules.specs.Meaning.{WellSorted, Equates, Free, Frees}
use Rattle.laws.proofs.Basics.Tests.{ne_of_differ}
use Rattle.laws.proofs.Equality.Kept.{head_kept, children_kept}
use Rattle.laws.proofs.Basics.Spelling.{same_head, same_count, same_root}
use Rattle.laws.proofs.Solving.Substituting.{FreePairs}
use Rattle.laws.proofs.Sorts.Instances.{substitute_tidy}

-- the substitution leaves the root alone
abbrev pub KeepsRoot : Substitution → Tree → Type 0
KeepsRoot σ t = (head (substitute σ t) ≡ head t) × (children (substitute σ t) ≡ substitutes σ (children t))

abbrev pub NotVariable : Tree → Type 0
NotVariable (variable x) = ⊥
NotVariable (atom c d) = Unit {0}
NotVariable (apply f ts) = Unit {0}

pub keeps_root : (σ : Substitution) (t : Tree) → NotVariable t → KeepsRoot σ t
unfolding substitute head children
keeps_root σ (variable x) n = absurd n
keeps_root σ (atom c d) n = (refl, refl)
keeps_root σ (apply f ts) n = (refl, refl)

pub differing_heads : (σ τ : Substitution) (l r : Tree) → KeepsRoot σ l → KeepsRoot τ r → same (head l) (head r) ≡ false → Ac (substitute σ l) (substitute τ r)
    → ⊥
differing_heads σ τ l r kl kr e h = ne_of_differ e (sym kl.0 ∙ head_kept h ∙ kr.0)

children_tidy : (arity : Text → ℕ) (t : Tree) → Tidy arity t → Tidies arity (children t)
unfolding children
children_tidy arity (variable x) d = tt
children_tidy arity (atom c n) d = tt
children_tidy arity (apply f ts) d = d.2

children_free : (y : Text) (t : Tree) → Free y t → Frees y (children t)
unfolding children
children_free y (variable x) d = tt
children_free y (atom c n) d = tt
children_free y (apply f ts) d = d

zip_tidies : (arity : Text → ℕ) (ts us : Trees) (ps : List Pair) → Tidies arity ts → Tidies arity us → TidyPairs arity ps → TidyPairs arity (push_children ts us ps)
unfolding push_children
zip_tidies arity none us ps a b d = d
zip_tidies arity (more t ts) none ps a b d = d
zip_tidies arity (more t ts) (more u us) ps a b d = (a.0, b.0, zip_tidies arity ts us ps a.1 b.1 d)

zip_frees : (y : Text) (ts us : Trees) (ps : List Pair) → Frees y ts → Frees y us → FreePairs y ps → FreePairs y (push_children ts us ps)
unfolding push_children
zip_frees y none us ps a b d = d
zip_frees y (more t ts) none ps a b d = d
zip_frees y (more t ts) (more u us) ps a b d = (a.0, b.0, zip_frees y ts us ps a.1 b.1 d)

pub zip_tidy : (arity : Text → ℕ) (l r : Tree) (ps : List Pair) → Tidy arity l → Tidy arity r → TidyPairs arity ps
    → TidyPairs arity (push_children (children l) (children r) ps)
zip_tidy arity l r ps dl dr d = zip_tidies arity (children l) (children r) ps (children_tidy arity l dl) (children_tidy arity r dr) d

pub zip_free : (y : Text) (l r : Tree) (ps : List Pair) → Free y l → Free y r → FreePairs y ps → FreePairs y (push_children (children l) (children r) ps)
zip_free y l r ps a b d = zip_frees y (children l) (children r) ps (children_free y l a) (children_free y r b) d

module _ (σ τ : Substitution) where
  zip_forth : (ts us : Trees) (ps : List Pair) → ACs (substitutes σ ts) (substitutes τ us) → Equates σ τ ps → Equates σ τ (push_children ts us ps)
  unfolding push_children substitutes
  zip_forth none us ps h e = e
  zip_forth (more t ts) none ps h e = e
  zip_forth (more t ts) (more u us) ps (both h k) e = (h, zip_forth ts us ps k e)

  zip_back : (ts us : Trees) (ps : List Pair) → count ts ≡ count us → Equates σ τ (push_children ts us ps) → ACs (substitutes σ ts) (substitutes τ us) × Equates σ τ ps
  unfolding push_children substitutes
  zip_back none none ps c e = (nil, e)
  zip_back none (more u us) ps c e = absurd (omega arith)
  zip_back (more t ts) none ps c e = absurd (omega arith)
  zip_back (more t ts) (more u us) ps c e = let k = zip_back ts us ps (omega arith) e.1 in (both e.0 k.0, k.1)

  module _ (arity : Text → ℕ) (counts : Arity arity) (gσ : WellSorted arity σ) (gτ : WellSorted arity τ) where
    pub decompose_equates : (l r : Tree) (ps : List Pair) → Tidy arity l → Tidy arity r → KeepsRoot σ l → KeepsRoot τ r → head l ≡ head r
        → (head l ≡ tamtplus → ⊥)
        → (Ac (substitute σ l) (substitute τ r) × Equates σ τ ps) ↔ Equates σ τ (push_children (children l) (children r) ps)
    decompose_equates l r ps dl dr kl kr e n = (forth, back)
      where
        forth : Ac (substitute σ l) (substitute τ r) × Equates σ τ ps → Equates σ τ (push_children (children l) (children r) ps)
        forth h = zip_forth (children l) (children r) ps (rw (kl.1, kr.1) at (children_kept h.0 (λ z. n (sym kl.0 ∙ z)))) h.1

        back : Equates σ τ (push_children (children l) (children r) ps) → Ac (substitute σ l) (substitute τ r) × Equates σ τ ps
        back h =
            let k = zip_back (children l) (children r) ps (same_count (same_head arity l r dl dr e)) h in
            let s =
            same_head arity (substitute σ l) (substitute τ r) (substitute_tidy arity counts σ gσ l dl) (substitute_tidy arity counts τ gτ r dr) (kl.0 ∙ e ∙ sym kr.0) in
            (same_root s (rw (kl.1, kr.1) k.0), k.1)
