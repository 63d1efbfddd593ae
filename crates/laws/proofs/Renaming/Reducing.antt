-- Renaming goes through reduction.
use mathlib.Core.Path.{◌≡◌, refl, sym, ◌∙◌, ap, ap₂, subst}
use mathlib.Core.Bool.{true}
use Rattle.rules.specs.Bytes.{Text}
use Rattle.rules.specs.Tree.{Tree, variable, atom, apply, Trees, none, more}
use Rattle.rules.specs.Substitution.{substitute}
use Rattle.rules.specs.Sorts.{message}
use Rattle.rules.specs.declared.Rule.{Rule}
use Rattle.rules.specs.Reduction.{opens, root, normalize, normalizes}
use Rattle.rules.specs.Tidy.{Built, Builts}
use Rattle.laws.proofs.Equality.Building.{built_first, built_rest, built_children, builts}
use Rattle.laws.proofs.Reduction.Shapes.{Shape, fst_shape, snd_shape, a_shape, b_shape, sdec_shape, kdec_shape, Rooted, fired, stays, rooted, root_fires}
use Rattle.laws.proofs.Reduction.Reaching.{alike}
use Rattle.laws.proofs.Renaming.Renamed.{Renaming, rename, renames, renames_twice, renames_built, message_renamed, equivalent_renamed}

module _ {r : Text → Text} (h : Renaming r) where
  opens_renamed : (payload key other : Tree) → Built key → Built other → opens (rename r payload) (rename r key) (rename r other) ≡ opens payload key other
  unfolding opens
  opens_renamed payload key other p q = rw (message_renamed h payload, message_renamed h key, equivalent_renamed h key other p q)

  message_still : (t : Tree) → message t ≡ true → message (rename r t) ≡ true
  message_still t e = message_renamed h t ∙ e

  -- where a rule fires, it fires on the renamed children
  shape_renamed : {f : Rule} {ts : Trees} {u : Tree} → Builts ts → Shape f ts u → Shape f (renames r ts) (rename r u)
  unfolding substitute
  shape_renamed b (fst_shape {a = x} {b = y} m n) = fst_shape (message_still x m) (message_still y n)
  shape_renamed b (snd_shape {a = x} {b = y} m n) = snd_shape (message_still x m) (message_still y n)
  shape_renamed b a_shape = a_shape
  shape_renamed b b_shape = b_shape
  shape_renamed b (sdec_shape {payload = payload} {key = key} {other = other} o) =
      let c = built_children (built_first b) in
      sdec_shape (opens_renamed payload key other (built_first (built_rest c)) (built_first (built_rest b)) ∙ o)
  shape_renamed b (kdec_shape {payload = payload} {key = key} {other = other} o) =
      let c = built_children (built_first (built_rest (built_children (built_first b)))) in
      kdec_shape (opens_renamed payload key other (built_first c) (built_first (built_rest b)) ∙ o)

  shape_back : {f : Rule} {ts : Trees} {u : Tree} → Builts ts → Shape f (renames r ts) u → Shape f ts (rename r u)
  shape_back {f} {ts} {u} b s = subst (λ (us : Trees). Shape f us (rename r u)) (renames_twice h ts) (shape_renamed (renames_built h b) s)

  root_renamed : (f : Text) (ts : Trees) → Builts ts → root f (renames r ts) ≡ rename r (root f ts)
  unfolding substitute
  root_renamed f ts b = go (root f ts) (rooted f ts) (root f (renames r ts)) refl (rooted f (renames r ts))
    where
      go : (t : Tree) → Rooted f ts t → (u : Tree) → root f (renames r ts) ≡ u → Rooted f (renames r ts) u → u ≡ rename r t
      go t (fired n s) u e k = sym e ∙ root_fires n (shape_renamed b s)
      go t (stays none_fires) u e (fired {r = q} {u = v} n s) = absurd (none_fires q (rename r v) n (shape_back b s))
      go t (stays none_fires) u e (stays also) = refl

  mutual
    unfolding normalize substitute

    pub normalize_renamed : (t : Tree) → Built t → normalize (rename r t) ≡ rename r (normalize t)
    normalize_renamed (variable x) b = refl
    normalize_renamed (atom c d) b = refl
    normalize_renamed (apply f ts) b = ap (root f) (normalizes_renamed ts (built_children b)) ∙ root_renamed f (normalizes ts) (builts (alike ts (built_children b)))

    normalizes_renamed : (ts : Trees) → Builts ts → normalizes (renames r ts) ≡ renames r (normalizes ts)
    normalizes_renamed none b = refl
    normalizes_renamed (more t ts) b = ap₂ more (normalize_renamed t (built_first b)) (normalizes_renamed ts (built_rest b))
