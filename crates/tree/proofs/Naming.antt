-- The names of cells: parts of the sheet and fixed names, and the heads of trees.
use Prim.Native.Nat.{ℕ, ◌+◌, ◌-◌, ◌*◌, ◌/◌, ◌%◌, ◌<◌, ◌≤◌}
use mathlib.Core.Path.{◌≡◌, refl, sym, ap, ap₂, ◌∙◌}
use mathlib.Core.Bool.{Bool, true, false, true≢false}
use mathlib.Core.List.{List, [], ◌∷◌, head-eq_of_cons-eq, tail-eq_of_cons-eq, append_cancel_right}
use mathlib.Core.Logic.{◌⊎◌, inl, inr}
use lib.Dec.{eqb}
use lib.ListN.{length, get_or, take, drop, length-take, length-drop}
use native.Mathlib.Omega.{arith}
use native.Mathlib.Decide.{dec_lt}
use borrow.Author.Tests.{eq-eqb, ne_eqb, eqb-true}
use Rattle.rules.specs.Bytes.{Text, same}
use Rattle.rules.specs.Tree.{atom_text, head}
use Rattle.laws.proofs.Basics.Tests.{same_eq, same_of_eq, differ_of_ne}
use Rattle.tree.specs.declared.area.Area.{Area}
use Rattle.tree.specs.Cells.{start_of, length_of, kind_of, fixed_name, part, named, name_at, tree_at}
use Rattle.tree.specs.Arena.{Cell}
use Rattle.std.specs.Option.{option_eq}
use Rattle.tree.specs.declared.kinds.Kind.{Kind}
use Rattle.tree.specs.Kinds.{letter_of}
use Rattle.tree.specs.Areas.{cell_kind, name_in}
use Rattle.tree.proofs.ByKind.{application_kind, variable_kind, atom_kind}
use Rattle.tree.proofs.FixedNames.{codes, fixed_some}
use Rattle.tree.proofs.Decoding.{Kind as Coded, application, a_variable, an_atom, kind, tree_variable, tree_atom, tree_apply}

-- the name of a cell, by its place
module _ (s : Text) (w : List ℕ) (k : ℕ) where
  pub name_part : 0 < length_of w k → name_at s w k ≡ part s (start_of w k) (length_of w k)
  unfolding name_at named
  name_part p = rw (ne_eqb (length_of w k) 0 (omega arith))

  pub name_fixed : length_of w k ≡ 0 → name_at s w k ≡ fixed_name (start_of w k)
  unfolding name_at named
  name_fixed e = rw (eq-eqb (length_of w k) 0 e)

  pub name_length : Cell s w k → 0 < length_of w k → length (name_at s w k) ≡ length_of w k
  name_length c p =
      let h = c.placed.inside p in
      ap length (name_part p) ∙ simp (length-take, length-drop) (omega arith)

  -- a part from a start to an end
  pub part_to : {a n : ℕ} → 0 < length_of w k → a ≡ start_of w k → n ≡ length_of w k → take (a + n - a) (drop a s) ≡ name_at s w k
  part_to {a} {n} p e f =
      let g : a + n - a ≡ n = omega arith in
      rw (name_part p, g, e, f)

-- a code is no 0
pub code_some : (a : Area) (k : ℕ) {c : ℕ} → 0 < k → k < a.free → length_of a.work.now k ≡ 0 → c ≡ start_of a.work.now k → (0 < c) × (c < 31)
code_some a k p q e f = rw f ((a.arena.cell k p q).placed.code e)

-- a length is of 16 bits
pub length_small : (w : List ℕ) (k : ℕ) → length_of w k < 65536
unfolding length_of
length_small w k = omega arith

same_by : {a b c d : Text} → (a ≡ b → c ≡ d) → (c ≡ d → a ≡ b) → same a b ≡ same c d
same_by {a} {b} {c} {d} f g = go (same c d) refl
  where
    go : (t : Bool) → same c d ≡ t → same a b ≡ t
    go true e = same_of_eq (g (same_eq c d e))
    go false e = differ_of_ne (λ h. true≢false (sym (same_of_eq (f h)) ∙ e))

-- the head of a cell
module _ (s : Text) (w : List ℕ) (k : ℕ) where
  head_name : kind_of w k < 7 → Coded (kind_of w k) → head (tree_at s w k) ≡ name_at s w k
  unfolding head
  head_name q (application e) = ap head (tree_apply s w k e)
  head_name q (a_variable p r) = ap head (tree_variable s w k p r)
  head_name q (an_atom p) = absurd (omega arith)

  head_atom : 7 ≤ kind_of w k → head (tree_at s w k) ≡ atom_text (kind_of w k) (name_at s w k)
  unfolding head
  head_atom p = ap head (tree_atom s w k p)

  head_plain : Cell s w k → kind_of w k < 7 → (c : ℕ) (d : Text) → head (tree_at s w k) ≡ atom_text c d → ⊥
  head_plain h q c d e = h.plain q (ap (λ (x : Text). get_or x 1 0) (sym (head_name q (kind (kind_of w k))) ∙ e))

-- the heads of two cells
module _ (s : Text) (w : List ℕ) (i j : ℕ) where
  abbrev same_heads : Bool
  same_heads = same (head (tree_at s w i)) (head (tree_at s w j))

  pub heads_names : kind_of w i < 7 → kind_of w j < 7 → same (name_at s w i) (name_at s w j) ≡ same_heads
  heads_names p q = sym (ap₂ same (head_name s w i p (kind (kind_of w i))) (head_name s w j q (kind (kind_of w j))))

  heads_atoms : 7 ≤ kind_of w i → kind_of w i ≡ kind_of w j → same (name_at s w i) (name_at s w j) ≡ same_heads
  heads_atoms p e =
      sym (ap₂ same (head_atom s w i p ∙ ap (λ (c : ℕ). atom_text c (name_at s w i)) e) (head_atom s w j (omega arith))
      ∙ same_by
      (λ h. append_cancel_right (name_at s w i) (name_at s w j) (41 ∷ []) (tail-eq_of_cons-eq (tail-eq_of_cons-eq h)))
      (λ h. ap (atom_text (kind_of w j)) h))

  pub heads_alike : kind_of w i ≡ kind_of w j → same (name_at s w i) (name_at s w j) ≡ same_heads
  heads_alike e = elim (dec_lt (kind_of w i) 7) [ yes q ↦ heads_names q (omega arith) | no q ↦ heads_atoms (omega arith) e ]

  -- an atom has the head of no other kind of tree
  pub heads_differ : Cell s w i → Cell s w j → (kind_of w i ≡ kind_of w j → ⊥) → (7 ≤ kind_of w i) ⊎ (7 ≤ kind_of w j) → false ≡ same_heads
  heads_differ c d h o = sym (differ_of_ne (apart o))
    where
      letters : 7 ≤ kind_of w i → 7 ≤ kind_of w j → head (tree_at s w i) ≡ head (tree_at s w j) → ⊥
      letters p q e = h (head-eq_of_cons-eq (sym (head_atom s w i p) ∙ e ∙ head_atom s w j q))

      apart : (7 ≤ kind_of w i) ⊎ (7 ≤ kind_of w j) → head (tree_at s w i) ≡ head (tree_at s w j) → ⊥
      apart (inl p) e = elim (dec_lt (kind_of w j) 7) [ yes q ↦ head_plain s w j d q (kind_of w i) (name_at s w i) (sym e ∙ head_atom s w i p) | no q ↦ letters p (omega arith) e ]
      apart (inr p) e = elim (dec_lt (kind_of w i) 7) [ yes q ↦ head_plain s w i c q (kind_of w j) (name_at s w j) (e ∙ head_atom s w j p) | no q ↦ letters (omega arith) p e ]

-- the names of two cells with one place, and of two with codes
module _ (s : Text) (w : List ℕ) (i j : ℕ) {a b : ℕ} where
  pub same_places : {n m : ℕ} → a ≡ start_of w i → b ≡ start_of w j → a ≡ b → n ≡ length_of w i → m ≡ length_of w j → n ≡ m → true ≡ same (name_at s w i) (name_at s w j)
  unfolding name_at
  same_places e f g h k l = sym (same_of_eq (ap₂ (named s) (sym e ∙ g ∙ f) (sym h ∙ l ∙ k)))

  pub same_codes : Cell s w i → Cell s w j → length_of w i ≡ 0 → length_of w j ≡ 0 → a ≡ start_of w i → b ≡ start_of w j → eqb a b ≡ same (name_at s w i) (name_at s w j)
  same_codes c d h k e f =
      let p = c.placed.code h in
      let q = d.placed.code k in
      ap₂ eqb e f ∙ sym (ap₂ same (name_fixed s w i h) (name_fixed s w j k) ∙ codes (start_of w i) (start_of w j) p.0 q.0)

-- the names of two cells of an area by their first words
module _ (a : Area) (i j : ℕ) where
  pub names_of_words : get_or a.work.now (4 * i) 0 ≡ get_or a.work.now (4 * j) 0 → true ≡ same (name_in a i) (name_in a j)
  unfolding start_of length_of
  names_of_words e = same_places a.sheet.now a.work.now i j refl refl (ap (λ (x : ℕ). x / 65536) e) refl refl (ap (λ (x : ℕ). x % 65536) e)

  pub names_apart : 0 < i → i < a.free → 0 < j → j < a.free → (get_or a.work.now (4 * i) 0 ≡ get_or a.work.now (4 * j) 0 → ⊥) → length_of a.work.now i ≡ 0 → length_of a.work.now j ≡ 0
      → false ≡ same (name_in a i) (name_in a j)
  unfolding start_of length_of
  names_apart p q r t h e f = sym (ne_eqb _ _ (λ g. h (omega (arith, e, f, g)))) ∙ same_codes a.sheet.now a.work.now i j (a.arena.cell i p q) (a.arena.cell j r t) e f refl refl

-- a name is short
pub name_short : (a : Area) (k : ℕ) → 0 < k → k < a.free → length (name_in a k) < 131072
name_short a k p q =
    let c = a.arena.cell k p q in
    elim (dec_lt 0 (length_of a.work.now k)) [
      | yes h ↦ omega (arith, name_length a.sheet.now a.work.now k c h, length_small a.work.now k)
      | no h ↦ (let e : length_of a.work.now k ≡ 0 = omega arith in omega (arith, ap length (name_fixed a.sheet.now a.work.now k e), c.placed.code e, fixed_some (start_of a.work.now k) (c.placed.code e).0))
    ]

-- the heads of two cells of an area by their letters
module _ (a : Area) (i j : ℕ) where
  abbrev one_head : Bool
  one_head = same_heads a.sheet.now a.work.now i j

  pub letters_apart : 0 < i → i < a.free → 0 < j → j < a.free → option_eq eqb (letter_of (cell_kind a i)) (letter_of (cell_kind a j)) ≡ false → false ≡ one_head
  letters_apart p q r t e = go (kind (kind_of a.work.now i)) (kind (kind_of a.work.now j))
    where
      w : List ℕ
      w = a.work.now

      apart : (kind_of w i ≡ kind_of w j → ⊥) → (7 ≤ kind_of w i) ⊎ (7 ≤ kind_of w j) → false ≡ one_head
      apart h o = heads_differ a.sheet.now w i j (a.arena.cell i p q) (a.arena.cell j r t) h o

      no : {x y : Kind} → cell_kind a i ≡ x → cell_kind a j ≡ y → option_eq eqb (letter_of x) (letter_of y) ≡ true → ⊥
      no f g h = true≢false (sym (ap₂ (λ (x y : Kind). option_eq eqb (letter_of x) (letter_of y)) f g ∙ h) ∙ e)

      go : Coded (kind_of w i) → Coded (kind_of w j) → false ≡ one_head
      go (application f) (application g) = absurd (no (application_kind _ f) (application_kind _ g) refl)
      go (application f) (a_variable x y) = absurd (no (application_kind _ f) (variable_kind _ x y) refl)
      go (application f) (an_atom g) = apart (λ h. omega arith) (inr g)
      go (a_variable x y) (application g) = absurd (no (variable_kind _ x y) (application_kind _ g) refl)
      go (a_variable x y) (a_variable z u) = absurd (no (variable_kind _ x y) (variable_kind _ z u) refl)
      go (a_variable x y) (an_atom g) = apart (λ h. omega arith) (inr g)
      go (an_atom f) (application g) = apart (λ h. omega arith) (inl f)
      go (an_atom f) (a_variable x y) = apart (λ h. omega arith) (inl f)
      go (an_atom f) (an_atom g) = apart (λ h. no (atom_kind _ f) (atom_kind _ g) (eq-eqb (kind_of w i) (kind_of w j) h)) (inl f)

  pub letters_alike : option_eq eqb (letter_of (cell_kind a i)) (letter_of (cell_kind a j)) ≡ true → same (name_in a i) (name_in a j) ≡ one_head
  letters_alike e = go (kind (kind_of a.work.now i)) (kind (kind_of a.work.now j))
    where
      s : Text
      s = a.sheet.now

      w : List ℕ
      w = a.work.now

      yes_both : {x y : Kind} → cell_kind a i ≡ x → cell_kind a j ≡ y → option_eq eqb (letter_of x) (letter_of y) ≡ true
      yes_both f g = sym (ap₂ (λ (x y : Kind). option_eq eqb (letter_of x) (letter_of y)) f g) ∙ e

      go : Coded (kind_of w i) → Coded (kind_of w j) → same (name_in a i) (name_in a j) ≡ one_head
      go (application f) (application g) = heads_names s w i j (omega arith) (omega arith)
      go (application f) (a_variable x y) = heads_names s w i j (omega arith) y
      go (application f) (an_atom g) = absurd (true≢false (sym (yes_both (application_kind _ f) (atom_kind _ g))))
      go (a_variable x y) (application g) = heads_names s w i j y (omega arith)
      go (a_variable x y) (a_variable z u) = heads_names s w i j y u
      go (a_variable x y) (an_atom g) = absurd (true≢false (sym (yes_both (variable_kind _ x y) (atom_kind _ g))))
      go (an_atom f) (application g) = absurd (true≢false (sym (yes_both (atom_kind _ f) (application_kind _ g))))
      go (an_atom f) (a_variable x y) = absurd (true≢false (sym (yes_both (atom_kind _ f) (variable_kind _ x y))))
      go (an_atom f) (an_atom g) = heads_alike s w i j (eqb-true (kind_of w i) (kind_of w j) (yes_both (atom_kind _ f) (atom_kind _ g)))
