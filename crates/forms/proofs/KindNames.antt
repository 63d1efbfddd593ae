-- The kind of a name, where a match on the name tells it by its length and its bytes.
use mathlib.Core.Path.{◌≡◌, refl, ap, ◌∙◌}
use mathlib.Core.Bool.{Bool, true, false}
use mathlib.Core.List.{List, [], ◌∷◌}
use Prim.Native.Nat.{ℕ, suc, ◌+◌}
use lib.ListN.{length, get_or}
use native.Mathlib.Omega.{arith}
use Rattle.std.specs.Prelude.{Option, Some, None}
use Rattle.rules.specs.Bytes.{Text, same}
use Rattle.rules.specs.Maybe.{◌>>=◌}
use Rattle.rules.specs.Sheet.{Kind, KindName, kind_in, kinds}
use Rattle.laws.proofs.Variants.Targets.{All}
use Rattle.laws.proofs.Variants.VariableOrder.{all_each}
use Rattle.text.proofs.Spelling.{Reads, reads, differs}
use Rattle.forms.specs.Form.{read_kind_at, read_named}

-- P, if the bytes of n from the i-th on are those of a name, each told by itself
abbrev pub IfBytes : Text → ℕ → Text → Type 0 → Type 0
IfBytes n i [] P = P
IfBytes n i (b ∷ name) P = get_or n i 0 ≡ b → IfBytes n (suc i) name P

-- P, if n is a name, as a match on n tells it
abbrev pub IfSpelled : Text → Text → Type 0 → Type 0
IfSpelled n name P = length n ≡ length name → IfBytes n 0 name P

-- P, if n is none of these names
abbrev pub IfOther : List KindName → Text → Type 0 → Type 0
IfOther [] n P = P
IfOther (r ∷ rs) n P = (IfSpelled n r.0 ⊥) → IfOther rs n P

bytes_then : (n : Text) (i : ℕ) (name : Text) {P : Type 0} → length n ≡ i + length name → (Reads n i name → P) → IfBytes n i name P
bytes_then n i [] l f = f (omega arith)
bytes_then n i (b ∷ name) l f = λ e. bytes_then n (suc i) name (omega arith) (λ r. f (e, r))

read_then : (n : Text) (i : ℕ) (name : Text) {P : Type 0} → IfBytes n i name P → Reads n i name → P
read_then n i [] p r = p
read_then n i (b ∷ name) p r = read_then n (suc i) name (p r.0) r.1

spelled_then : (n name : Text) {P : Type 0} → (n ≡ name → P) → IfSpelled n name P
spelled_then n name f l = bytes_then n 0 name (omega arith) (λ r. f (reads n name r))

other_name : (n name : Text) → IfSpelled n name ⊥ → same n name ≡ false
other_name n name f = differs n name (λ r. read_then n 0 name (f (ap length (reads n name r))) r)

other_then : (rs : List KindName) (n : Text) {P : Type 0} → (kind_in rs n ≡ None → P) → IfOther rs n P
unfolding kind_in
other_then [] n f = f refl
other_then (r ∷ rs) n f = λ h. other_then rs n (λ e. f (ap (λ (t : Bool). elim t [ true ↦ Some r.1 | false ↦ kind_in rs n ]) (other_name n r.0 h) ∙ e))

-- a text that is no kind's name
pub other_kind : (n s : Text) (at : ℕ) → IfOther kinds n (read_named n s at ≡ None)
other_kind n s at = other_then kinds n (λ e. ap (λ (o : Option Kind). o >>= λ k. read_kind_at k s at) e)

-- one that is the name of a row
abbrev pub Named : KindName → Type 0
Named r = (n s : Text) (at : ℕ) → IfSpelled n r.0 (read_named n s at ≡ read_kind_at r.1 s at)

abbrev Found : KindName → Type 0
Found r = kind_in kinds r.0 ≡ Some r.1

named : (r : KindName) → Found r → Named r
named r e n s at = spelled_then n r.0 (λ i. ap (λ (n : Text). read_named n s at) i ∙ ap (λ (o : Option Kind). o >>= λ k. read_kind_at k s at) e)

found : All Found kinds
unfolding kind_in same
found = assumption

pub all_named : All Named kinds
all_named = all_each Found Named named kinds found

-- what the proof of the reading by a kind's name uses
pub ruleset kind_names = (other_kind, all_named)
