-- The order of the sorts: what has a sort has every sort above it, and sorts that share a tree meet.
use mathlib.Core.Path.{◌≡◌, refl, ap, sym, subst, ◌∙◌}
use mathlib.Core.Bool.{Bool, true, false, cond, not, ◌&&◌, ◌||◌, false≢true}
use mathlib.Core.Logic.{⊎_elim}
use Rattle.std.specs.Prelude.{Option, Some, None}
use Prim.Native.Nat.{ℕ}
use native.Mathlib.Omega.{arith}
use lib.Dec.{eqb}
use Rattle.rules.specs.Bytes.{Text, same}
use Rattle.rules.specs.Names.{letter}
use Rattle.rules.specs.Tree.{Tree, variable, atom, apply, Trees, none, more, count, tamtplus}
use Rattle.rules.specs.declared.Sort.{Sort}
use Rattle.rules.specs.declared.Sort.TheVariants.{Pub, Fresh, Msg, TamNat, Node}
use Rattle.rules.specs.Sorts.{same_sort, intersects, variable_sort, Symbol, addition, unit, frame, free, tone, is_frame, symbol, has_sort, has_message_sort, natural, naturals, natural_at, message, messages, message_at, basic, sorted}
use Rattle.rules.specs.Tidy.{Arity, Tidy}
use Rattle.laws.proofs.Basics.Tests.{and_left, and_right, and_both, or_cases, eqb_true, same_eq}

-- a test of all sorts at once
abbrev pub all_sorts : (Sort → Bool) → Bool
all_sorts p = p Pub && (p Fresh && (p Msg && (p TamNat && p Node)))

pub at_sort : (p : Sort → Bool) → all_sorts p ≡ true → (s : Sort) → p s ≡ true
at_sort p e s = go s
  where
    from_fresh : (p Fresh && (p Msg && (p TamNat && p Node))) ≡ true
    from_fresh = and_right (p Pub) (p Fresh && (p Msg && (p TamNat && p Node))) e

    from_msg : (p Msg && (p TamNat && p Node)) ≡ true
    from_msg = and_right (p Fresh) (p Msg && (p TamNat && p Node)) from_fresh

    from_nat : (p TamNat && p Node) ≡ true
    from_nat = and_right (p Msg) (p TamNat && p Node) from_msg

    go : (r : Sort) → p r ≡ true
    go Pub = and_left (p Pub) (p Fresh && (p Msg && (p TamNat && p Node))) e
    go Fresh = and_left (p Fresh) (p Msg && (p TamNat && p Node)) from_fresh
    go Msg = and_left (p Msg) (p TamNat && p Node) from_msg
    go TamNat = and_left (p TamNat) (p Node) from_nat
    go Node = and_right (p TamNat) (p Node) from_nat

-- whether what has the first sort has the second
abbrev pub below : Sort → Sort → Bool
below c Pub = same_sort c Pub
below c Fresh = same_sort c Fresh
below c Msg = not (same_sort c Node)
below c TamNat = same_sort c TamNat
below c Node = same_sort c Node

pub below_self : (s : Sort) → below s s ≡ true
below_self s = at_sort (λ r. below r r) refl s

pub implies : (a b : Bool) → (not a || b) ≡ true → a ≡ true → b ≡ true
implies true b e h = e
implies false b e h = absurd (false≢true h)

-- sorts above one sort meet
pub below_meet : (a b c : Sort) → below a b ≡ true → below a c ≡ true → intersects b c ≡ true
below_meet a b c h k = implies (below a b && below a c) (intersects b c)
    (at_sort (λ z. not (below a b && below a z) || intersects b z)
    (at_sort (λ y. all_sorts (λ z. not (below a y && below a z) || intersects y z))
    (at_sort (λ x. all_sorts (λ y. all_sorts (λ z. not (below x y && below x z) || intersects y z))) refl a) b) c)
    (and_both (below a b) (below a c) h k)

pub same_sort_eq : (a b : Sort) → same_sort a b ≡ true → a ≡ b
same_sort_eq Pub Pub e = refl
same_sort_eq Pub Fresh e = absurd (false≢true e)
same_sort_eq Pub Msg e = absurd (false≢true e)
same_sort_eq Pub TamNat e = absurd (false≢true e)
same_sort_eq Pub Node e = absurd (false≢true e)
same_sort_eq Fresh Pub e = absurd (false≢true e)
same_sort_eq Fresh Fresh e = refl
same_sort_eq Fresh Msg e = absurd (false≢true e)
same_sort_eq Fresh TamNat e = absurd (false≢true e)
same_sort_eq Fresh Node e = absurd (false≢true e)
same_sort_eq Msg Pub e = absurd (false≢true e)
same_sort_eq Msg Fresh e = absurd (false≢true e)
same_sort_eq Msg Msg e = refl
same_sort_eq Msg TamNat e = absurd (false≢true e)
same_sort_eq Msg Node e = absurd (false≢true e)
same_sort_eq TamNat Pub e = absurd (false≢true e)
same_sort_eq TamNat Fresh e = absurd (false≢true e)
same_sort_eq TamNat Msg e = absurd (false≢true e)
same_sort_eq TamNat TamNat e = refl
same_sort_eq TamNat Node e = absurd (false≢true e)
same_sort_eq Node Pub e = absurd (false≢true e)
same_sort_eq Node Fresh e = absurd (false≢true e)
same_sort_eq Node Msg e = absurd (false≢true e)
same_sort_eq Node TamNat e = absurd (false≢true e)
same_sort_eq Node Node e = refl

-- variables

pub sorted_variable : (s c : Sort) (x : Text) → variable_sort x ≡ Some c → sorted s (variable x) ≡ below c s
unfolding sorted natural message basic
sorted_variable Pub c x e = ap (has_sort Pub) e
sorted_variable Fresh c x e = ap (has_sort Fresh) e
sorted_variable Msg c x e = ap has_message_sort e
sorted_variable TamNat c x e = ap (has_sort TamNat) e
sorted_variable Node c x e = ap (has_sort Node) e

unnamed : (x : Text) → variable_sort x ≡ None → (s : Sort) → not (sorted s (variable x)) ≡ true
unfolding sorted natural message basic
unnamed x e = at_sort (λ s. not (sorted s (variable x))) (rw e)

pub named : (s : Sort) (x : Text) → sorted s (variable x) ≡ true → (c : Sort) × (variable_sort x ≡ Some c) × (below c s ≡ true)
named s x e = go (variable_sort x) refl
  where
    go : (o : Option Sort) → variable_sort x ≡ o → (c : Sort) × (variable_sort x ≡ Some c) × (below c s ≡ true)
    go None p = absurd (false≢true (ap not (sym e) ∙ unnamed x p s))
    go (Some c) p = (c, p, sym (sorted_variable s c x p) ∙ e)

-- atoms: the least sort of a letter

abbrev letter_sort : Bool → Bool → Bool → Bool → Sort
letter_sort true b c d = Pub
letter_sort false true c d = Fresh
letter_sort false false true d = TamNat
letter_sort false false false true = Node
letter_sort false false false false = Msg

abbrev pub atom_sort : ℕ → Sort
atom_sort c = letter_sort (eqb c 112) (eqb c 102) (eqb c 116) (eqb c 110)

at_letter : (P : ℕ → Type 0) (c n : ℕ) → eqb c n ≡ true → P n → P c
at_letter P c n e h = subst P (sym (eqb_true c n e)) h

-- what holds of each of the five letters
pub at_letters : (P : ℕ → Type 0) → P 112 → P 102 → P 99 → P 116 → P 110 → (c : ℕ) → letter c ≡ true → P c
unfolding letter
at_letters P p f k t n c = either (eqb c 112 || eqb c 102 || eqb c 99 || eqb c 116) (eqb c 110)
    (either (eqb c 112 || eqb c 102 || eqb c 99) (eqb c 116)
    (either (eqb c 112 || eqb c 102) (eqb c 99)
    (either (eqb c 112) (eqb c 102) (λ e. at_letter P c 112 e p) (λ e. at_letter P c 102 e f))
    (λ e. at_letter P c 99 e k)) (λ e. at_letter P c 116 e t)) (λ e. at_letter P c 110 e n)
  where
    either : (a b : Bool) → (a ≡ true → P c) → (b ≡ true → P c) → (a || b) ≡ true → P c
    either a b g h e = ⊎_elim g h (or_cases a b e)

message_letter : (a b c d : Bool) → not d ≡ true → below (letter_sort a b c d) Msg ≡ true
message_letter true b c d h = refl
message_letter false true c d h = refl
message_letter false false true d h = refl
message_letter false false false true h = h
message_letter false false false false h = refl

pub sorted_atom : (s : Sort) (c : ℕ) (d : Text) → sorted s (atom c d) ≡ true → below (atom_sort c) s ≡ true
unfolding sorted natural message basic
sorted_atom Pub c d e = at_letter (λ b. below (atom_sort b) Pub ≡ true) c 112 e refl
sorted_atom Fresh c d e = at_letter (λ b. below (atom_sort b) Fresh ≡ true) c 102 e refl
sorted_atom Msg c d e = message_letter (eqb c 112) (eqb c 102) (eqb c 116) (eqb c 110) e
sorted_atom TamNat c d e = at_letter (λ b. below (atom_sort b) TamNat ≡ true) c 116 e refl
sorted_atom Node c d e = at_letter (λ b. below (atom_sort b) Node ≡ true) c 110 e refl

-- applications: `sorted` from the symbol and the tests of the arguments

abbrev pub sorted_at : Sort → Symbol → Bool → Bool → Bool
sorted_at Pub h a b = false
sorted_at Fresh h a b = false
sorted_at Msg h a b = message_at h a b
sorted_at TamNat h a b = natural_at h a
sorted_at Node h a b = false

pub sorted_apply : (s : Sort) (f : Text) (ts : Trees) → sorted s (apply f ts) ≡ sorted_at s (symbol f) (naturals ts) (messages ts)
unfolding sorted natural message basic
sorted_apply Pub f ts = refl
sorted_apply Fresh f ts = refl
sorted_apply Msg f ts = refl
sorted_apply TamNat f ts = refl
sorted_apply Node f ts = refl

abbrev pub symbol_sort : Symbol → Sort
symbol_sort addition = TamNat
symbol_sort unit = TamNat
symbol_sort frame = Msg
symbol_sort free = Msg

pub sorted_symbol : (s : Sort) (h : Symbol) (a b : Bool) → sorted_at s h a b ≡ true → below (symbol_sort h) s ≡ true
sorted_symbol Pub h a b e = absurd (false≢true e)
sorted_symbol Fresh h a b e = absurd (false≢true e)
sorted_symbol Msg addition a b e = refl
sorted_symbol Msg unit a b e = refl
sorted_symbol Msg frame a b e = refl
sorted_symbol Msg free a b e = refl
sorted_symbol TamNat addition a b e = refl
sorted_symbol TamNat unit a b e = refl
sorted_symbol TamNat frame a b e = e
sorted_symbol TamNat free a b e = e
sorted_symbol Node h a b e = absurd (false≢true e)

-- the sorts of one tree are above one sort
pub sorts_meet : (r s : Sort) (t : Tree) → sorted r t ≡ true → sorted s t ≡ true → intersects r s ≡ true
sorts_meet r s (variable x) p q = let n = named r x p in below_meet n.0 r s n.2 (sym (sorted_variable s n.0 x n.1) ∙ q)
sorts_meet r s (atom c d) p q = below_meet (atom_sort c) r s (sorted_atom r c d p) (sorted_atom s c d q)
sorts_meet r s (apply f ts) p q = below_meet (symbol_sort (symbol f)) r s
    (sorted_symbol r (symbol f) (naturals ts) (messages ts) (sym (sorted_apply r f ts) ∙ p))
    (sorted_symbol s (symbol f) (naturals ts) (messages ts) (sym (sorted_apply s f ts) ∙ q))

-- what has a sort has every sort above

is_unit : Symbol → Bool
is_unit addition = false
is_unit unit = true
is_unit frame = false
is_unit free = false

symbol_unit : (f : Text) → is_unit (symbol f) ≡ true → f ≡ tone
unfolding symbol is_unit
symbol_unit f e = go (same f tamtplus) (same f tone) (is_frame f) refl e
  where
    go : (a b c : Bool) → same f tone ≡ b → is_unit (cond a addition (cond b unit (cond c frame free))) ≡ true → f ≡ tone
    go true b c p z = absurd (false≢true z)
    go false true c p z = same_eq f tone p
    go false false true p z = absurd (false≢true z)
    go false false false p z = absurd (false≢true z)

pub childless : (ts : Trees) → count ts ≡ 0 → ts ≡ none
childless none e = refl
childless (more t ts) e = absurd (omega arith)

module _ (arity : Text → ℕ) (counts : Arity arity) where
  pub unit_childless : (f : Text) (ts : Trees) → symbol f ≡ unit → Tidy arity (apply f ts) → ts ≡ none
  unfolding is_unit
  unit_childless f ts e d = childless ts (d.0 ∙ ap arity (symbol_unit f (ap is_unit e)) ∙ counts.ones)

  natural_message : (t : Tree) → Tidy arity t → natural t ≡ true → message t ≡ true
  unfolding natural message
  natural_message (variable x) d e =
      ap has_message_sort d.1 ∙ subst (λ (r : Sort). not (same_sort r Node) ≡ true) (sym (same_sort_eq d.0 TamNat (sym (ap (has_sort TamNat) d.1) ∙ e))) refl
  natural_message (atom c n) d e = at_letter (λ b. not (eqb b 110) ≡ true) c 116 e refl
  natural_message (apply f ts) d e = go (symbol f) refl e
    where
      go : (h : Symbol) → symbol f ≡ h → natural_at h (naturals ts) ≡ true → message_at h (naturals ts) (messages ts) ≡ true
      go addition p z = z
      go unit p z = ap messages (unit_childless f ts p d)
      go frame p z = z
      go free p z = absurd (false≢true z)

  basic_message : (s : Sort) (k : ℕ) → not (eqb k 110) ≡ true → not (same_sort s Node) ≡ true → (t : Tree) → Tidy arity t → basic s k t ≡ true
      → message t ≡ true
  unfolding basic message
  basic_message s k p q (variable x) d e =
      ap has_message_sort d.1 ∙ subst (λ (r : Sort). not (same_sort r Node) ≡ true) (sym (same_sort_eq d.0 s (sym (ap (has_sort s) d.1) ∙ e))) q
  basic_message s k p q (atom c n) d e = at_letter (λ b. not (eqb b 110) ≡ true) c k e p
  basic_message s k p q (apply f ts) d e = absurd (false≢true e)

  pub raise : (c s : Sort) → below c s ≡ true → (t : Tree) → Tidy arity t → sorted c t ≡ true → sorted s t ≡ true
  unfolding sorted
  raise c Pub h t d e = subst (λ (z : Sort). sorted z t ≡ true) (same_sort_eq c Pub h) e
  raise c Fresh h t d e = subst (λ (z : Sort). sorted z t ≡ true) (same_sort_eq c Fresh h) e
  raise c TamNat h t d e = subst (λ (z : Sort). sorted z t ≡ true) (same_sort_eq c TamNat h) e
  raise c Node h t d e = subst (λ (z : Sort). sorted z t ≡ true) (same_sort_eq c Node h) e
  raise Pub Msg h t d e = basic_message Pub 112 refl refl t d e
  raise Fresh Msg h t d e = basic_message Fresh 102 refl refl t d e
  raise Msg Msg h t d e = e
  raise TamNat Msg h t d e = natural_message t d e
  raise Node Msg h t d e = absurd (false≢true h)
