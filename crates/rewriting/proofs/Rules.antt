-- The rule of a name, by its length and its bytes.
use Prim.Native.Nat.{ℕ, zero, suc, ◌-◌, ◌<◌}
use mathlib.Core.Path.{◌≡◌, refl, sym, ap, ◌∙◌}
use mathlib.Core.Bool.{Bool, true, false}
use mathlib.Core.List.{List, [], ◌∷◌}
use native.Mathlib.Omega.{arith}
use lib.ListN.{get_or}
use Rattle.std.specs.Prelude.{Some, None}
use Rattle.rules.specs.Bytes.{Text}
use Rattle.rules.specs.declared.Rule.{Rule}
use Rattle.rules.specs.declared.Rule.TheVariants.{Fst, Snd, Flip, Sdec, Kdec}
use Rattle.rules.specs.Reduction.{rule_name, rule_in, rule_named}
use Rattle.tree.specs.declared.area.Area.{Area}
use Rattle.tree.specs.Cells.{start_of, length_of, fixed_name, named, name_at}
use Rattle.tree.specs.Areas.{name_in}
use Rattle.tree.proofs.FixedNames.{unspelled_first}
use Rattle.text.proofs.Spelling.{Reads, reads, differs}

pub fst_named : (n : Text) → Reads n 0 (rule_name Fst) → Some Fst ≡ rule_named n
unfolding rule_named rule_in
fst_named n r = rw (reads n (rule_name Fst) r) refl

pub snd_named : (n : Text) → Reads n 0 (rule_name Snd) → Some Snd ≡ rule_named n
unfolding rule_named rule_in
snd_named n r = rw (reads n (rule_name Snd) r) refl

pub flip_named : (n : Text) → Reads n 0 (rule_name Flip) → Some Flip ≡ rule_named n
unfolding rule_named rule_in
flip_named n r = rw (reads n (rule_name Flip) r) refl

pub sdec_named : (n : Text) → Reads n 0 (rule_name Sdec) → Some Sdec ≡ rule_named n
unfolding rule_named rule_in
sdec_named n r = rw (reads n (rule_name Sdec) r) refl

pub kdec_named : (n : Text) → Reads n 0 (rule_name Kdec) → Some Kdec ≡ rule_named n
unfolding rule_named rule_in
kdec_named n r = rw (reads n (rule_name Kdec) r) refl

-- a text with none of the names
missed : (n : Text) (r : Rule) (rs : List Rule) → (Reads n 0 (rule_name r) → ⊥) → rule_in (r ∷ rs) n ≡ rule_in rs n
unfolding rule_in
missed n r rs h = ap (λ (b : Bool). elim b [ true ↦ Some r | false ↦ rule_in rs n ]) (differs n (rule_name r) h)

pub no_rule : (n : Text) → (Reads n 0 (rule_name Fst) → ⊥) → (Reads n 0 (rule_name Snd) → ⊥) → (Reads n 0 (rule_name Flip) → ⊥) → (Reads n 0 (rule_name Sdec) → ⊥) → (Reads n 0 (rule_name Kdec) → ⊥) → None ≡ rule_named n
unfolding rule_named rule_in
no_rule n p s l d k = sym (missed n Fst (Snd ∷ Flip ∷ Sdec ∷ Kdec ∷ []) p ∙ missed n Snd (Flip ∷ Sdec ∷ Kdec ∷ []) s ∙ missed n Flip (Sdec ∷ Kdec ∷ []) l ∙ missed n Sdec (Kdec ∷ []) d ∙ missed n Kdec [] k)

-- a name by its code
no_letter : (n : Text) → 120 ≡ get_or n 0 0 → None ≡ rule_named n
no_letter n e = no_rule n (λ r. omega arith) (λ r. omega arith) (λ r. omega arith) (λ r. omega arith) (λ r. omega arith)

fixed_none : (c : ℕ) → 0 < c → None ≡ rule_named (fixed_name c)
unfolding rule_named rule_in
fixed_none zero p = absurd (omega arith)
fixed_none (suc zero) p = refl
fixed_none (suc (suc zero)) p = refl
fixed_none (suc (suc (suc zero))) p = refl
fixed_none (suc (suc (suc (suc zero)))) p = refl
fixed_none (suc (suc (suc (suc (suc zero))))) p = refl
fixed_none (suc (suc (suc (suc (suc (suc zero)))))) p = refl
fixed_none (suc (suc (suc (suc (suc (suc (suc c))))))) p = let n = suc (suc (suc (suc (suc (suc c))))) in no_letter (fixed_name (suc n)) (unspelled_first (n - 6) 0 refl)

pub coded_none : (a : Area) (k : ℕ) → 0 < k → k < a.free → length_of a.work.now k ≡ 0 → None ≡ rule_named (name_in a k)
unfolding name_at named
coded_none a k p q z = let c = (a.arena.cell k p q).placed.code z in rw z (fixed_none (start_of a.work.now k) c.0)
