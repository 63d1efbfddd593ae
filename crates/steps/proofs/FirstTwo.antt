-- The first two of the cells that are left of a sum.
use Prim.Native.Nat.{ℕ, suc, ◌+◌, ◌-◌, ◌<◌, ◌≤◌}
use mathlib.Core.Path.{◌≡◌, refl, sym, ap, ap₂, subst, ◌∙◌}
use mathlib.Core.Bool.{Bool, true, false, not, cond}
use mathlib.Core.List.{List, [], ◌∷◌}
use lib.Dec.{eqb}
use lib.ListN.{length, get_or, take, drop, length-take}
use lib.Seq.{get_or-take, get_or-drop}
use borrow.Author.Tests.{eqb-false}
use native.Mathlib.Omega.{arith}
use Rattle.std.specs.Prelude.{Option, Some, None, map, filter}
use Rattle.std.proofs.lemmas.Iterator.{YieldsList}
use Rattle.rules.specs.Tree.{Tree}
use Rattle.text.proofs.Slices.{drop_take}
use Rattle.tree.specs.declared.area.Area.{Area}
use Rattle.tree.specs.Areas.{tree_in, CellIn}
use Rattle.sums.specs.Sums.{remaining}
use Rattle.sums.specs.Areas.{remaining_in}
use Rattle.steps.specs.Areas.{LeftIn}

-- the first two of a list
abbrev pub FirstTwo : List ℕ → Option ℕ → Option ℕ → Type 0
FirstTwo zs None q = zs ≡ []
FirstTwo zs (Some k) None = zs ≡ k ∷ []
FirstTwo zs (Some k) (Some m) = (ms : List ℕ) × (zs ≡ k ∷ m ∷ ms)

module _ {S : Type 0} {steps : S → Option ℕ → S → Type 0} (s t u : S) where
  pub two_taken : (zs : List ℕ) (r q : Option ℕ) → steps s r t → steps t q u → YieldsList steps (λ x. x) s zs → FirstTwo zs r q
  two_taken [] None q a b y = refl
  two_taken [] (Some k) q a b y = absurd (y.runs k t a)
  two_taken (z ∷ zs) None q a b y = absurd (y.runs.0 t a)
  two_taken (z ∷ []) (Some k) None a b y = ap (λ (x : ℕ). x ∷ []) (sym (y.runs.1 k t a).0)
  two_taken (z ∷ []) (Some k) (Some m) a b y = absurd ((y.runs.1 k t a).1 m u b)
  two_taken (z ∷ w ∷ zs) (Some k) None a b y = absurd ((y.runs.1 k t a).1.0 u b)
  two_taken (z ∷ w ∷ zs) (Some k) (Some m) a b y =
      let n = y.runs.1 k t a in
      (zs, ap₂ (λ (x v : ℕ). x ∷ v ∷ zs) (sym n.0) (sym (n.1.1 m u b).0))

-- the cells but 0
abbrev pub left : List ℕ → List ℕ
left cs = map (λ c. c) (filter (λ c. not (eqb c 0)) cs)

module _ (a : Area) where
  trees_left : (cs : List ℕ) → remaining a.sheet.now a.work.now cs ≡ map (tree_in a) (left cs)
  unfolding remaining
  trees_left [] = refl
  trees_left (c ∷ cs) = go (eqb c 0) (trees_left cs)
    where
      go : (b : Bool) → remaining a.sheet.now a.work.now cs ≡ map (tree_in a) (left cs)
          → cond b (remaining a.sheet.now a.work.now cs) (tree_in a c ∷ remaining a.sheet.now a.work.now cs) ≡ map (tree_in a) (map (λ c. c) (cond (not b) (c ∷ filter (λ c. not (eqb c 0)) cs) (filter (λ c. not (eqb c 0)) cs)))
      go true r = r
      go false r = ap (λ (ts : List Tree). tree_in a c ∷ ts) r

  first_inside : (cs : List ℕ) → ((i : ℕ) → i < length cs → get_or cs i 0 < a.free) → (k : ℕ) (zs : List ℕ) → left cs ≡ k ∷ zs → CellIn a k
  first_inside [] h k zs e = absurd cc
  first_inside (c ∷ cs) h k zs e = go (eqb c 0) refl (first_inside cs (λ i q. h (suc i) (omega (arith, q))) k zs) e
    where
      go : (b : Bool) → eqb c 0 ≡ b → (left cs ≡ k ∷ zs → CellIn a k) → map (λ c. c) (cond (not b) (c ∷ filter (λ c. not (eqb c 0)) cs) (filter (λ c. not (eqb c 0)) cs)) ≡ k ∷ zs → CellIn a k
      go true f r g = r g
      go false f r g =
          let z : c ≡ k = cc in
          let n = eqb-false c 0 f in
          let q = h 0 (omega arith) in
          (omega (arith, n, z), omega (arith, q, z))

  pub left_is : (cs : List ℕ) (r q : Option ℕ) → ((i : ℕ) → i < length cs → get_or cs i 0 < a.free) → FirstTwo (left cs) r q → LeftIn a (remaining a.sheet.now a.work.now cs) r q
  left_is cs None q h e = trees_left cs ∙ ap (map (tree_in a)) e
  left_is cs (Some k) None h e = (first_inside cs h k [] e, trees_left cs ∙ ap (map (tree_in a)) e)
  left_is cs (Some k) (Some m) h e = (tree_in a k, tree_in a m, map (tree_in a) e.0, trees_left cs ∙ ap (map (tree_in a)) e.1)

  -- the words from x to y
  module _ (x y : ℕ) where
    abbrev pub words : List ℕ
    words = take (y - x) (drop x a.work.now)

    word_inside : ((p : ℕ) → x ≤ p → p < y → get_or a.work.now p 0 < a.free) → (i : ℕ) → i < length words → get_or words i 0 < a.free
    word_inside h i q =
        let k = length-take (y - x) (drop x a.work.now) in
        let e : get_or words i 0 ≡ get_or a.work.now (x + i) 0 = get_or-take (y - x) (drop x a.work.now) i 0 (omega arith) ∙ get_or-drop x a.work.now i 0 in
        let z = h (x + i) (omega arith) (omega arith) in
        omega arith

    pub left_words : (r q : Option ℕ) → ((p : ℕ) → x ≤ p → p < y → get_or a.work.now p 0 < a.free) → FirstTwo (left words) r q → LeftIn a (remaining_in a x y) r q
    left_words r q h e = subst (λ (cs : List ℕ). LeftIn a (remaining a.sheet.now a.work.now cs) r q) (sym (drop_take x y a.work.now)) (left_is words r q (word_inside h) e)
