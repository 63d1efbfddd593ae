-- What is claimed of a member of an area.
use Prim.Native.Nat.{ℕ, ◌+◌, ◌<◌, ◌≤◌}
use native.Mathlib.Omega.{arith}
use mathlib.Core.Path.{◌≡◌, sym, ap, ap₂, ◌∙◌}
use mathlib.Core.Bool.{Bool}
use mathlib.Core.List.{[], ◌∷◌}
use Rattle.std.specs.Prelude.{Option, Some, None}
use Rattle.rules.specs.Tree.{Tree, size}
use Rattle.rules.specs.Sums.{equivalent}
use Rattle.rules.specs.Reduction.{normalize}
use Rattle.rules.specs.Sheet.{Member}
use Rattle.rules.specs.Variants.{sound}
use Rattle.laws.proofs.Reduction.Sizes.{normalize_size}
use Rattle.tree.specs.declared.area.Area.{Area}
use Rattle.tree.specs.Areas.{tree_in, KeepsCells, Grows}
use Rattle.tree.proofs.Keeping.{adds_grows, grows_keeps, grows_then, grows_tree}
use Rattle.substitution.proofs.Listing.{within_grows}
use Rattle.substitution.specs.Areas.{bindings_in, instance_in, WithinArea, Places}
use Rattle.substitution.specs.declared.instances.Built.{Built}
use Rattle.reduction.specs.Areas.{Becomes}
use Rattle.forms.specs.Members.{members_at}
use Rattle.variants.specs.Areas.{UnreadMember, ReadMemberIn, ClaimsInstanceIn, ClaimsSoundIn}
use Rattle.variants.specs.declared.members.Variant.{Variant}
use Rattle.variants.proofs.Claiming.{instance_over, instance_there, sound_unread, sound_read}

-- ---- the instance

pub instance_large : {a b : Area} (term : ℕ) (v : Variant) → (4096 < size (instance_in a v.bindings term)) × WithinArea a b 4096 → ClaimsInstanceIn a b term v None
instance_large {a} term v h = (
  instance_over (bindings_in a v.bindings) (tree_in a term) (tree_in a v.value) h.0,
  within_grows h.1,
)

module _ {a m : Area} (term : ℕ) (v : Variant) {r : Built} (one : Places a m 4096 0 (instance_in a v.bindings term) r) where
  pub instance_small : (size (tree_in m r.index) ≤ 4096) × (size (instance_in a v.bindings term) ≤ 4096)
  instance_small = omega (arith, one.spent, ap size one.puts.tree)

  module _ {b : Area} {i : ℕ} (two : Becomes m b (size (tree_in m r.index)) 0 (normalize (tree_in m r.index)) i) (p : 0 < v.value) (q : v.value < a.free) where
    kept : Grows a b
    kept = grows_then (adds_grows one.puts.adds) two.grows

    same_value : tree_in b v.value ≡ tree_in a v.value
    same_value = grows_tree kept v.value q p

    pub reduced_sizes : size (tree_in a v.value) ≤ 4096 → (size (tree_in b i) ≤ 4096) × (size (tree_in b v.value) ≤ 4096) × (a.free ≤ b.free) × (b.free ≤ a.free + 8192)
    reduced_sizes h = omega (arith, instance_small, normalize_size (tree_in m r.index), ap size two.tree, ap size same_value, one.used, two.used, kept.grew)

    pub reduced_claim : {d : Area} → KeepsCells b d → (o : Bool) → o ≡ equivalent (tree_in b i) (tree_in b v.value) → ClaimsInstanceIn a d term v (Some o)
    reduced_claim k o e = (
      sym (
          instance_there (bindings_in a v.bindings) (tree_in a term) (tree_in a v.value) instance_small.1
          ∙ ap Some (sym (e ∙ ap₂ equivalent (two.tree ∙ ap normalize one.puts.tree) same_value))),
      grows_then kept (grows_keeps k),
    )

-- ---- the member

pub unread_claims : {a b : Area} (term at : ℕ) → UnreadMember a.sheet.now at × Grows a b → ClaimsSoundIn a b term at None
unread_claims {a} term at x = (λ m h. sound_unread (tree_in a term) m (x.0 m [] h), x.1)

pub sound_claims : {a b d : Area} {at : ℕ} {v : Variant} (term : ℕ) (r : Option Bool) → 0 < term → term < a.free → ReadMemberIn a b at v → ClaimsInstanceIn b d term v r → ClaimsSoundIn a d term at r
sound_claims {a} {b} {d} {at} {v} term r p q x y = (go, grows_then x.grows y.1)
  where
    go : (m : Member) → members_at a.sheet.now at ≡ Some (m ∷ []) → r ≡ sound (tree_in a term) m
    go m h =
        let z = x.reads m [] h in
        y.0 ∙ sound_read b.arena term p (omega (arith, x.grows.grew)) m (tree_in b v.value) (bindings_in b v.bindings) z.bs z.read z.alike
        ∙ ap (λ (t : Tree). sound t m) (grows_tree x.grows term q p)
