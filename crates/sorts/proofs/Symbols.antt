-- What a name stands for, by its length and its bytes.
use Prim.Native.Nat.{ℕ, zero, suc, ◌-◌, ◌<◌}
use mathlib.Core.Path.{◌≡◌, refl}
use native.Mathlib.Omega.{arith}
use lib.ListN.{get_or}
use Rattle.rules.specs.Bytes.{Text}
use Rattle.rules.specs.Text.{bytes}
use Rattle.rules.specs.Tree.{tamtplus}
use Rattle.rules.specs.Sorts as rules
use Rattle.tree.specs.declared.area.Area.{Area}
use Rattle.tree.specs.Cells.{start_of, length_of, fixed_name, named, name_at}
use Rattle.tree.specs.Areas.{name_in}
use Rattle.tree.proofs.FixedNames.{unspelled_first}
use Rattle.text.proofs.Spelling.{Reads, reads, differs}

pub sum_named : (n : Text) → Reads n 0 tamtplus → rules.addition ≡ rules.symbol n
unfolding rules.symbol
sum_named n r = rw (reads n tamtplus r) refl

pub unit_named : (n : Text) → Reads n 0 rules.tone → rules.unit ≡ rules.symbol n
unfolding rules.symbol
unit_named n r = rw (reads n rules.tone r) refl

-- a text with none of the names
pub other_named : (n : Text) → (Reads n 0 tamtplus → ⊥) → (Reads n 0 rules.tone → ⊥) → (Reads n 0 (bytes "list") → ⊥) → (Reads n 0 (bytes "cons") → ⊥) → (Reads n 0 (bytes "nil") → ⊥) → rules.free ≡ rules.symbol n
unfolding rules.symbol rules.is_frame
other_named n p u l c e = rw (differs n tamtplus p, differs n rules.tone u, differs n (bytes "list") l, differs n (bytes "cons") c, differs n (bytes "nil") e) refl

-- a name by its code
no_letter : (n : Text) → 120 ≡ get_or n 0 0 → rules.free ≡ rules.symbol n
no_letter n e = other_named n (λ r. omega arith) (λ r. omega arith) (λ r. omega arith) (λ r. omega arith) (λ r. omega arith)

pub fixed_free : (c : ℕ) → 0 < c → rules.free ≡ rules.symbol (fixed_name c)
unfolding rules.symbol rules.is_frame
fixed_free zero p = absurd (omega arith)
fixed_free (suc zero) p = refl
fixed_free (suc (suc zero)) p = refl
fixed_free (suc (suc (suc zero))) p = refl
fixed_free (suc (suc (suc (suc zero)))) p = refl
fixed_free (suc (suc (suc (suc (suc zero))))) p = refl
fixed_free (suc (suc (suc (suc (suc (suc zero)))))) p = refl
fixed_free (suc (suc (suc (suc (suc (suc (suc c))))))) p = let n = suc (suc (suc (suc (suc (suc c))))) in no_letter (fixed_name (suc n)) (unspelled_first (n - 6) 0 refl)

pub coded_free : (a : Area) (k : ℕ) → 0 < k → k < a.free → length_of a.work.now k ≡ 0 → rules.free ≡ rules.symbol (name_in a k)
unfolding name_at named
coded_free a k p q z = let c = (a.arena.cell k p q).placed.code z in rw z (fixed_free (start_of a.work.now k) c.0)
