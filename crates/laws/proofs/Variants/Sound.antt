-- What the answers of sound mean.
use mathlib.Core.Path.{◌≡◌, refl, sym, ◌∙◌, ap, subst}
use mathlib.Core.Bool.{Bool, true, false, true≢false}
use mathlib.Core.Logic.{◌↔◌}
use Rattle.std.specs.Prelude.{Option, Some, None}
use Prim.Native.Nat.{◌≤◌}
use lib.Dec.{leb}
use Rattle.rules.specs.Maybe.{◌>>=◌, guard}
use Rattle.rules.specs.Tree.{Tree, size}
use Rattle.rules.specs.Substitution.{instantiate}
use Rattle.rules.specs.Sums.{equivalent}
use Rattle.rules.specs.Equality.{Ac}
use Rattle.rules.specs.Sheet.{Member}
use Rattle.rules.specs.Reduction.{normalize}
use Rattle.rules.specs.Variants.{Variant, read_member, instance_of, sound}
use Rattle.rules.specs.Tidy.{Built}
use Rattle.rules.specs.Families.{SoundMeans, text_unreadable, instance_over, is_variant, is_other}
use Rattle.laws.proofs.Basics.Tests.{leb_true, leb_false, true_leb, false_leb}
use Rattle.laws.proofs.Equality.Canonical.{equivalent_sound, equivalent_complete}
use Rattle.laws.proofs.Reduction.Reaching.{built_normal}
use Rattle.laws.proofs.Variants.Readable.{member_unread, unread_member, member_built}

module _ (term : Tree) (built : Built term) (m : Member) where
  abbrev judged : Variant → Option Bool
  judged v = instance_of v.1 term >>= λ i. Some (equivalent (normalize i) v.0)

  -- where the instance is within the limit
  abbrev judged_if : Bool → Variant → Option Bool
  judged_if b v = (guard b >>= λ _. Some (instantiate v.1 term)) >>= λ i. Some (equivalent (normalize i) v.0)

  -- the test decides Ac equality of what is compared
  decides : (v : Variant) → read_member m ≡ Some v → Ac (normalize (instantiate v.1 term)) v.0 ↔ (equivalent (normalize (instantiate v.1 term)) v.0 ≡ true)
  decides v e =
      let (b, c) = member_built m v e in
      (equivalent_complete, equivalent_sound (built_normal (instantiate v.1 term) (c term built)) b)

  judged_means : (v : Variant) → read_member m ≡ Some v → SoundMeans term m (judged v)
  unfolding instance_of
  judged_means v e = go (leb (size (instantiate v.1 term)) 4096) refl
    where
      test : (b : Bool) → equivalent (normalize (instantiate v.1 term)) v.0 ≡ b → size (instantiate v.1 term) ≤ 4096 → SoundMeans term m (Some b)
      test true f l = is_variant e l ((decides v e).1 f)
      test false f l = is_other e l (λ a. true≢false (sym ((decides v e).0 a) ∙ f))

      go : (b : Bool) → leb (size (instantiate v.1 term)) 4096 ≡ b
          → SoundMeans term m (judged_if b v)
      go true f = test (equivalent (normalize (instantiate v.1 term)) v.0) refl (leb_true _ 4096 f)
      go false f = instance_over e (leb_false _ 4096 f)

  sound_view : SoundMeans term m (sound term m)
  unfolding sound
  sound_view = go (read_member m) refl
    where
      go : (o : Option Variant) → read_member m ≡ o → SoundMeans term m (o >>= judged)
      go None e = text_unreadable (member_unread m e)
      go (Some v) e = judged_means v e

  judged_is : (v : Variant) → read_member m ≡ Some v → sound term m ≡ judged v
  unfolding sound
  judged_is v e = ap (λ (o : Option Variant). o >>= judged) e

  judged_within : (v : Variant) → size (instantiate v.1 term) ≤ 4096 → judged v ≡ Some (equivalent (normalize (instantiate v.1 term)) v.0)
  unfolding instance_of
  judged_within v l = ap (λ (b : Bool). judged_if b v) (true_leb _ 4096 l)

  only_sound : (r : Option Bool) → SoundMeans term m r → sound term m ≡ r
  unfolding sound instance_of
  only_sound r (text_unreadable u) = ap (λ (o : Option Variant). o >>= judged) (unread_member m u)
  only_sound r (instance_over {v} e l) =
      judged_is v e ∙ ap (λ (b : Bool). judged_if b v) (false_leb _ 4096 l)
  only_sound r (is_variant {v} e l a) = judged_is v e ∙ judged_within v l ∙ ap Some ((decides v e).0 a)
  only_sound r (is_other {v} e l a) = judged_is v e ∙ judged_within v l ∙ ap Some (no (equivalent (normalize (instantiate v.1 term)) v.0) refl)
    where
      no : (b : Bool) → equivalent (normalize (instantiate v.1 term)) v.0 ≡ b → b ≡ false
      no true f = absurd (a ((decides v e).1 f))
      no false f = refl

  pub sound_is : (r : Option Bool) → (sound term m ≡ r) ↔ SoundMeans term m r
  sound_is r = (λ e. subst (SoundMeans term m) e sound_view, only_sound r)
