-- Renaming goes through bindings: lookup, the instances of trees and pairs, the composition of bindings.
use mathlib.Core.Path.{◌≡◌, refl, ◌∙◌, ap, ap₂}
use mathlib.Core.Bool.{Bool, true, false}
use mathlib.Core.List.{List, [], ◌∷◌}
use Rattle.std.specs.Prelude.{Option, Some, None}
use Prim.Native.Nat.{ℕ}
use lib.Dec.{leb}
use Rattle.rules.specs.Bytes.{Text, same}
use Rattle.rules.specs.Tree.{Tree, variable, atom, apply, Trees, none, more, size}
use Rattle.rules.specs.Substitution.{substitute, substitutes, Binding, Pair, pick, lookup, instantiate, instantiate_pairs, size_pairs}
use Rattle.rules.specs.Solving.{extended, compose_over, compose}
use Rattle.laws.proofs.Renaming.Renamed.{Renaming, rename, renames, rename_pairs, rename_bindings, mapped, same_renamed, size_renamed}

module _ {r : Text → Text} (h : Renaming r) where
  pub lookup_renamed : (bs : List Binding) (x : Text) → lookup (rename_bindings r bs) (r x) ≡ rename r (lookup bs x)
  unfolding lookup substitute
  lookup_renamed [] x = refl
  lookup_renamed (b ∷ bs) x =
      ap₂ (λ (c : Bool) (t : Tree). pick c (rename r b.1) t) (same_renamed h b.0 x) (lookup_renamed bs x) ∙ picked (same b.0 x)
    where
      picked : (c : Bool) → pick c (rename r b.1) (rename r (lookup bs x)) ≡ rename r (pick c b.1 (lookup bs x))
      picked true = refl
      picked false = refl

  module _ (bs : List Binding) where
    mutual
      unfolding substitute

      pub instance_renamed : (t : Tree) → instantiate (rename_bindings r bs) (rename r t) ≡ rename r (instantiate bs t)
      instance_renamed (variable x) = lookup_renamed bs x
      instance_renamed (atom c d) = refl
      instance_renamed (apply f ts) = ap (apply f) (instances_renamed ts)

      instances_renamed : (ts : Trees) → substitutes (lookup (rename_bindings r bs)) (renames r ts) ≡ renames r (substitutes (lookup bs) ts)
      instances_renamed none = refl
      instances_renamed (more t ts) = ap₂ more (instance_renamed t) (instances_renamed ts)

    pub pairs_renamed : (ps : List Pair) → instantiate_pairs (rename_bindings r bs) (rename_pairs r ps) ≡ rename_pairs r (instantiate_pairs bs ps)
    unfolding instantiate_pairs
    pairs_renamed [] = refl
    pairs_renamed (p ∷ ps) =
        ap₂ (λ (q : Pair) (qs : List Pair). q ∷ qs) (ap₂ (λ (t u : Tree). (t, u)) (instance_renamed p.0) (instance_renamed p.1)) (pairs_renamed ps)

  pub size_pairs_renamed : (ps : List Pair) → size_pairs (rename_pairs r ps) ≡ size_pairs ps
  unfolding size_pairs
  size_pairs_renamed [] = refl
  size_pairs_renamed (p ∷ ps) = rw (size_renamed h p.0, size_renamed h p.1, size_pairs_renamed ps)

  -- the size of an instance
  pub instance_size : (bs : List Binding) (t : Tree) → size (instantiate (rename_bindings r bs) (rename r t)) ≡ size (instantiate bs t)
  instance_size bs t = ap size (instance_renamed bs t) ∙ size_renamed h (instantiate bs t)

  over_renamed : (x : Text) (v : Tree) (o : Option (List Binding))
      → compose_over (r x) (rename r v) (mapped (rename_bindings r) o) ≡ mapped (rename_bindings r) (compose_over x v o)
  over_renamed x v None = refl
  over_renamed x v (Some bs) =
      ap₂ (λ (n : ℕ) (t : Tree). extended (leb n 4096) (r x) t (rename_bindings r bs)) (instance_size bs v) (instance_renamed bs v)
      ∙ fit (leb (size (instantiate bs v)) 4096)
    where
      fit : (c : Bool) → extended c (r x) (rename r (instantiate bs v)) (rename_bindings r bs) ≡ mapped (rename_bindings r) (extended c x (instantiate bs v) bs)
      fit true = refl
      fit false = refl

  pub compose_renamed : (bs : List Binding) → compose (rename_bindings r bs) ≡ mapped (rename_bindings r) (compose bs)
  unfolding compose
  compose_renamed [] = refl
  compose_renamed (b ∷ bs) = ap (compose_over (r b.0) (rename r b.1)) (compose_renamed bs) ∙ over_renamed b.0 b.1 (compose bs)
