-- The two cases of an option are apart, and the value of one is its own.
use Rattle.std.specs.Prelude.{◌≡◌, Option, Some, None}
use Rattle.std.proofs.Common.{ap}

pub some_injective : {A : Type 0} (x y : A) → Some x ≡ Some y → x ≡ y
some_injective x y e = ap (λ o. elim o [ None ↦ x | Some z ↦ z ]) e

pub none_ne_some : {A : Type 0} (x : A) → ◌≡◌ {A = Option A} None (Some x) → ⊥
none_ne_some x e = cc

pub some_ne_none : {A : Type 0} (x : A) → ◌≡◌ {A = Option A} (Some x) None → ⊥
some_ne_none x e = cc
