-- The places of variables, gathered, sorted and without repeats.
use Prim.Native.Nat.{ℕ, zero, suc, ◌+◌, ◌*◌, ◌<◌, ◌≤◌}
use mathlib.Core.Path.{◌≡◌, refl, sym, ap, ap₂, subst, ◌∙◌}
use mathlib.Core.Bool.{Bool, true, false≢true}
use mathlib.Core.List.Memᴰ
use mathlib.Core.List.{List, [], ◌∷◌, ◌++◌, map, Memᴰ, Permᴰ}
use lib.ListN.{length, get_or}
use lib.Seq.{slice}
use native.Mathlib.Omega.{arith}
use native.Mathlib.Decide.{dec_lt}
use Rattle.std.proofs.lemmas.List.{map-append}
use Rattle.rules.specs.Bytes.{Text}
use Rattle.rules.specs.Names.{variable_token}
use Rattle.rules.specs.Tree.{Tree, apply, Trees, more, size, sizes, variable_names, variable_names_in}
use Rattle.rules.specs.Tidy.{Built, Builts, both}
use Rattle.laws.proofs.Sheets.BuiltRun.{name_token}
use Rattle.laws.proofs.Equality.Building.{built_children}
use Rattle.text.specs.Places.{text_at}
use Rattle.laws.specs.Sorting.{sort_by}
use Rattle.laws.proofs.Basics.Sorting.{sort_by_perm}
use Rattle.text.specs.Frames.{Wrote}
use Rattle.text.proofs.Frames.{outside_same, outside_then, outside_within}
use Rattle.text.proofs.Slices.{slice_same, slice_join, slice_none}
use Rattle.tree.specs.Cells.{start_of, length_of, kind_of, first_of, next_of, fixed_name, name_at, tree_at, trees_at}
use Rattle.tree.specs.Arena.{Cell, Arena}
use Rattle.tree.proofs.Decoding.{trees_more, tree_variable, tree_atom, tree_apply, size_pos, size_apply}
use Rattle.tree.proofs.FixedNames.{fixed_length}
use Rattle.tree.proofs.Naming.{name_part, name_fixed}
use Rattle.variables.specs.Variables.{Readable, ReadableAll, Variable, Variables, VariablePlaces}

-- ---- lists of places

module _ (s : Text) where
  pub variables_append : (xs ys : List ℕ) → Variables s xs → Variables s ys → Variables s (xs ++ ys)
  unfolding Variables
  variables_append [] ys p q = q
  variables_append (x ∷ xs) ys p q = (p.0, variables_append xs ys p.1 q)

  variables_perm : {xs ys : List ℕ} → Permᴰ xs ys → Variables s ys → Variables s xs
  unfolding Variables
  variables_perm Permᴰ.nil p = p
  variables_perm (Permᴰ.cons e h) p = (rw e p.0, variables_perm h p.1)
  variables_perm (Permᴰ.swap e f) p = (rw e p.1.0, (rw f p.0, p.1.1))
  variables_perm (Permᴰ.trans g h) p = variables_perm g (variables_perm h p)

  pub variables_sort : (le : ℕ → ℕ → Bool) (xs : List ℕ) → Variables s xs → Variables s (sort_by le xs)
  variables_sort le xs = variables_perm (sort_by_perm le xs)

-- ---- the place of a variable's cell

-- a fixed name that is a variable is longer than a sheet
fixed_token : (c : ℕ) → variable_token (fixed_name c) ≡ true → length (fixed_name c) ≤ 65536 → ⊥
unfolding variable_token
fixed_token zero e l = false≢true e
fixed_token (suc zero) e l = false≢true e
fixed_token (suc (suc zero)) e l = false≢true e
fixed_token (suc (suc (suc zero))) e l = false≢true e
fixed_token (suc (suc (suc (suc zero)))) e l = false≢true e
fixed_token (suc (suc (suc (suc (suc zero))))) e l = false≢true e
fixed_token (suc (suc (suc (suc (suc (suc zero)))))) e l = false≢true e
fixed_token (suc (suc (suc (suc (suc (suc (suc c))))))) e l = omega (arith, fixed_length (suc (suc (suc (suc (suc (suc (suc c))))))) (omega arith))

module _ (s : Text) (w : List ℕ) (k : ℕ) (c : Cell s w k) (p : 0 < kind_of w k) (q : kind_of w k < 7) (b : Readable (tree_at s w k)) where
  token : variable_token (name_at s w k) ≡ true
  token = name_token (subst Built (tree_variable s w k p q) b.built)

  short_name : length (name_at s w k) ≤ 65536
  unfolding variable_names
  short_name = b.short (name_at s w k) (subst (λ (t : Tree). Memᴰ (name_at s w k) (variable_names t)) (sym (tree_variable s w k p q)) (Memᴰ.head refl))

  some_bytes : 0 < length_of w k
  some_bytes = elim (dec_lt 0 (length_of w k)) [
    | yes h ↦ h
    | no h ↦ (let e = name_fixed s w k (omega arith) in absurd (fixed_token (start_of w k) (sym (ap variable_token e) ∙ token) (subst (λ (x : Text). length x ≤ 65536) e short_name)))
  ]

  pub place_text : text_at s (get_or w (4 * k) 0) ≡ name_at s w k
  unfolding text_at start_of length_of
  place_text = sym (name_part s w k some_bytes)

  pub place_variable : Variable s (get_or w (4 * k) 0)
  unfolding start_of length_of
  place_variable = record { token = ap variable_token place_text ∙ token; inside = c.placed.inside some_bytes }

-- ---- what is read of a sheet, by parts

first_built : {t : Tree} {ts : Trees} → Builts (more t ts) → Built t × Builts ts
first_built (both b bs) = (b, bs)

children_spelled : {f : Text} {ts : Trees} → Readable (apply f ts) → ReadableAll ts
unfolding variable_names
children_spelled h = record { built = built_children h.built; short = h.short }

first_spelled : {t : Tree} {ts : Trees} → ReadableAll (more t ts) → Readable t × ReadableAll ts
unfolding variable_names
first_spelled {t} {ts} h =
    let b = first_built h.built in (
      record { built = b.0; short = λ x m. h.short x (Memᴰ.append_left (variable_names_in ts) m) },
      record { built = b.1; short = λ x m. h.short x (Memᴰ.append_right (variable_names t) m) },
    )

-- ---- gathering

-- one writer after another
pub named_append : (s : Text) (w v u : List ℕ) (at mid end a b : ℕ) (ns ms : List Text) → VariablePlaces s w v at mid a ns → VariablePlaces s v u mid end b ms → at + a + b ≤ length w
    → VariablePlaces s w u at end (a + b) (ns ++ ms)
named_append s w v u at mid end a b ns ms g h room =
    let e₁ = g.grew in
    let e₂ = h.grew in
    let e₃ = g.most_is in
    let e₄ = h.most_is in
    let e₅ = g.kept.len in
    let e₆ = h.kept.len in
    let first : slice at mid u ≡ slice at mid v = slice_same at mid u v (omega arith) (omega arith) (λ x y z. h.kept.below x z) in
    let split : slice at end u ≡ slice at mid v ++ slice mid end u = sym (slice_join at mid end u e₁ e₂ (omega arith)) ∙ ap (λ (l : List ℕ). l ++ slice mid end u) first in
    record {
      kept = outside_then e₁ e₂ (omega arith) g.kept h.kept;
      grew = omega arith;
      most_is = omega arith;
      places = subst (Variables s) (sym split) (variables_append s (slice at mid v) (slice mid end u) g.places h.places);
      are = ap (map (text_at s)) split ∙ map-append (text_at s) (slice at mid v) (slice mid end u) ∙ ap₂ (λ (x y : List Text). x ++ y) g.are h.are;
    }

pub named_empty : (s : Text) (w : List ℕ) (at r most : ℕ) (ns : List Text) → r ≡ at → ns ≡ [] → VariablePlaces s w w at r most ns
unfolding Variables
named_empty s w at r most ns e f =
    let y : slice at r w ≡ [] = slice_none at r w (omega arith) in
    record {
      kept = outside_same w at r;
      grew = omega arith;
      most_is = omega arith;
      places = subst (Variables s) (sym y) tt;
      are = ap (map (text_at s)) y ∙ sym f;
    }

module _ (s : Text) (w : List ℕ) (i : ℕ) where
  pub named_variable : {n : ℕ} {x : ℕ} {u v : List ℕ} (at r : ℕ) → Arena s w n → 0 < i → i < n → 0 < kind_of w i → kind_of w i < 7 → Readable (tree_at s w i) → x ≡ get_or w (4 * i) 0 → Wrote u v at (x ∷ []) → r ≡ at + 1
      → VariablePlaces s u v at r (size (tree_at s w i)) (variable_names (tree_at s w i))
  unfolding Variables variable_names
  named_variable {n} {x} {u} {v} at r a k l p q b f g e =
      let c = a.cell i k l in
      let o = size_pos (tree_at s w i) in
      let y : slice at r v ≡ get_or w (4 * i) 0 ∷ [] = ap (λ (t : ℕ). slice at t v) e ∙ g.words ∙ ap (λ (t : ℕ). t ∷ []) f in
      record {
        kept = outside_within (omega arith) (omega arith) g.outside;
        grew = omega arith;
        most_is = omega arith;
        places = subst (Variables s) (sym y) (place_variable s w i c p q b, tt);
        are = ap (map (text_at s)) y ∙ ap (λ (t : Text). t ∷ []) (place_text s w i c p q b) ∙ sym (ap variable_names (tree_variable s w i p q));
      }

  pub named_atom : (u : List ℕ) (at r : ℕ) → 7 ≤ kind_of w i → r ≡ at → VariablePlaces s u u at r (size (tree_at s w i)) (variable_names (tree_at s w i))
  unfolding variable_names
  named_atom u at r p e = named_empty s u at r (size (tree_at s w i)) (variable_names (tree_at s w i)) e (ap variable_names (tree_atom s w i p))

  pub list_spelled : (j : ℕ) → kind_of w i ≡ 0 → j ≡ first_of w i → Readable (tree_at s w i) → ReadableAll (trees_at s w j)
  list_spelled j k e b = subst (λ (j : ℕ). ReadableAll (trees_at s w j)) (sym e) (children_spelled (subst Readable (tree_apply s w i k) b))

  pub named_list : {u v : List ℕ} {at end : ℕ} (j : ℕ) → kind_of w i ≡ 0 → j ≡ first_of w i → VariablePlaces s u v at end (sizes (trees_at s w j)) (variable_names_in (trees_at s w j))
      → VariablePlaces s u v at end (size (tree_at s w i)) (variable_names (tree_at s w i))
  unfolding variable_names
  named_list j k e g =
      let z = size_apply s w i k in
      let y = ap (λ (j : ℕ). sizes (trees_at s w j)) e in
      let a = g.most_is in
      record {
        kept = g.kept;
        grew = g.grew;
        most_is = omega arith;
        places = g.places;
        are = g.are ∙ ap (λ (j : ℕ). variable_names_in (trees_at s w j)) e ∙ sym (ap variable_names (tree_apply s w i k));
      }

-- the parts of a list
module _ (s : Text) {w : List ℕ} {n : ℕ} (a : Arena s w n) (i : ℕ) (p : 0 < i) (q : i < n) where
  pub parts_spelled : ReadableAll (trees_at s w i) → Readable (tree_at s w i) × ReadableAll (trees_at s w (next_of w i))
  parts_spelled b = first_spelled (subst ReadableAll (trees_more s a.links i p q) b)

  pub parts_names : variable_names_in (trees_at s w i) ≡ variable_names (tree_at s w i) ++ variable_names_in (trees_at s w (next_of w i))
  unfolding variable_names
  parts_names = ap variable_names_in (trees_more s a.links i p q)
