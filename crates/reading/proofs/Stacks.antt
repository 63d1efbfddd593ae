-- The stack in words: words that stay, a tree put on the top, a level opened.
use Prim.Native.Nat.{ℕ, zero, suc, ◌+◌, ◌*◌, ◌<◌, ◌≤◌}
use native.Mathlib.Omega.{arith}
use native.Mathlib.Numerals.{add-one}
use native.Mathlib.Decide.{dec_lt, ℕ_discrete}
use mathlib.Core.Path.{◌≡◌, refl, sym, ap, ap₂, ◌∙◌, subst}
use mathlib.Core.List.{List}
use lib.ListN.{length, get_or, set, length-set}
use lib.Seq.{get_or-set_same, get_or-set_other}
use Rattle.rules.specs.Bytes.{Text}
use Rattle.rules.specs.Tree.{Tree, Trees, none, more}
use Rattle.rules.specs.Reading.{close}
use Rattle.tree.specs.Cells.{part, trees_at}
use Rattle.tree.specs.Arena.{Links, Arena, Grown}
use Rattle.tree.proofs.Decoding.{Agree, frame_trees, trees_none}
use Rattle.tree.proofs.Areas.{arena_frame}
use Rattle.closing.specs.Machine.{Stack, bottom, level, add, back}
use Rattle.text.specs.Frames.{Outside}
use Rattle.text.proofs.Frames.{outside_same, outside_within, outside_set}
use Rattle.closing.specs.Words.{stack_at, NamePlaced, Held, Added, Opened}
use Rattle.closing.specs.Closing.{closed_level}

level_path : {a b : Text} {ts us : Trees} {k l : Stack} → a ≡ b → ts ≡ us → k ≡ l → level a ts k ≡ level b us l
level_path p q r = cc

-- a tree of the stack: the same number, and the same cells
module _ (s : Text) {w : List ℕ} (v : List ℕ) {n : ℕ} (l : Links w n) (g : Agree w v n) where
  at_word : (p : ℕ) → get_or w p 0 ≡ get_or v p 0 → get_or w p 0 < n → trees_at s w (get_or w p 0) ≡ trees_at s v (get_or v p 0)
  at_word p e q = frame_trees s v l g (get_or w p 0) q ∙ ap (trees_at s v) e

  -- the stack stays where its words stay
  pub stack_frame : (limit d : ℕ) → ((p : ℕ) → 4 * limit ≤ p → p ≤ 4 * limit + 3 * d → get_or w p 0 ≡ get_or v p 0) → ((i : ℕ) → i ≤ d → get_or w (4 * limit + 3 * i) 0 < n)
      → stack_at s w limit d ≡ stack_at s v limit d
  unfolding stack_at
  stack_frame limit zero e t =
      let z : 4 * limit + 3 * 0 ≡ 4 * limit = omega arith in
      ap bottom (at_word (4 * limit) (e (4 * limit) (omega arith) (omega arith)) (rw z at (t 0 (omega arith))))
  stack_frame limit (suc d) e t =
      let z : 4 * limit + 3 * suc d ≡ 4 * limit + 3 * d + 3 = omega arith in
      level_path
      (ap₂ (part s) (e (4 * limit + 3 * d + 1) (omega arith) (omega arith)) (e (4 * limit + 3 * d + 2) (omega arith) (omega arith)))
      (at_word (4 * limit + 3 * d + 3) (e (4 * limit + 3 * d + 3) (omega arith) (omega arith)) (rw z at (t (suc d) (omega arith))))
      (stack_frame limit d (λ p a b. e p a (omega arith)) (λ i q. t i (omega arith)))

-- a tree put on the level d: new cells up to m, and the last of them in the level's word
abbrev top_set : List ℕ → ℕ → ℕ → ℕ → List ℕ
top_set v limit d k = set v (4 * limit + 3 * d) k

-- the cells n to m - 1 are new, and cell k is a tree before the list at a link
pub record Put (s : Text) (w v : List ℕ) (n m k next : ℕ) (t : Tree) : Type 0 where
  pub grew : n ≤ m
  pub inside : k < m
  pub arena : Arena s v m
  pub grown : Grown w v n m
  pub trees : trees_at s v k ≡ more t (trees_at s w next)

module _ {s : Text} {w v : List ℕ} {n m limit d : ℕ} {t : Tree} (k : ℕ) (h : Held s w n limit d) (b : m ≤ limit) (x : Put s w v n m k (get_or w (4 * limit + 3 * d) 0) t) where
  -- words of v other than the level's
  kept : (p : ℕ) → (p ≡ 4 * limit + 3 * d → ⊥) → get_or v p 0 ≡ get_or (top_set v limit d k) p 0
  kept p f = sym (get_or-set_other v (4 * limit + 3 * d) p k 0 f)

  cells : Agree v (top_set v limit d k) m
  cells p q = kept p (omega arith)

  new : get_or (top_set v limit d k) (4 * limit + 3 * d) 0 ≡ k
  new = get_or-set_same v (4 * limit + 3 * d) k 0 (omega (arith, h.room, x.grown.len))

  -- words of w at the stack's levels below
  lower : (p : ℕ) → 4 * limit ≤ p → p < 4 * limit + 3 * d → get_or w p 0 ≡ get_or (top_set v limit d k) p 0
  lower p q r = sym (x.grown.above p (omega arith)) ∙ kept p (omega arith)

  old_cells : Agree w (top_set v limit d k) n
  old_cells p q = let f = x.grew in sym (x.grown.below p q) ∙ cells p (omega arith)

  top_trees : trees_at s (top_set v limit d k) (get_or (top_set v limit d k) (4 * limit + 3 * d) 0) ≡ more t (trees_at s w (get_or w (4 * limit + 3 * d) 0))
  top_trees = ap (trees_at s (top_set v limit d k)) new ∙ sym (frame_trees s (top_set v limit d k) x.arena.links cells k x.inside) ∙ x.trees

  added_stack : (f : ℕ) → f ≡ d → stack_at s (top_set v limit d k) limit f ≡ add t (stack_at s w limit f)
  unfolding stack_at
  added_stack zero f =
      let z : 4 * limit + 3 * d ≡ 4 * limit = omega arith in
      ap bottom (subst (λ (p : ℕ). trees_at s (top_set v limit d k) (get_or (top_set v limit d k) p 0) ≡ more t (trees_at s w (get_or w p 0))) z top_trees)
  added_stack (suc c) f =
      let z : 4 * limit + 3 * d ≡ 4 * limit + 3 * c + 3 = omega arith in
      level_path
      (sym (ap₂ (part s) (lower (4 * limit + 3 * c + 1) (omega arith) (omega arith)) (lower (4 * limit + 3 * c + 2) (omega arith) (omega arith))))
      (subst (λ (p : ℕ). trees_at s (top_set v limit d k) (get_or (top_set v limit d k) p 0) ≡ more t (trees_at s w (get_or w p 0))) z top_trees)
      (sym (stack_frame s (top_set v limit d k) h.arena.links old_cells limit c (λ p q r. lower p q (omega arith)) (λ i q. h.trees i (omega arith))))

  added_trees : (i : ℕ) → i ≤ d → get_or (top_set v limit d k) (4 * limit + 3 * i) 0 < m
  added_trees i q = elim (ℕ_discrete i d) [
    | yes f ↦ rw (f, new) x.inside
    | no f ↦ (let l = h.trees i q in let g = lower (4 * limit + 3 * i) (omega arith) (omega arith) in let j = x.grew in omega arith)
  ]

  pub added : Added s w (top_set v limit d k) n m limit d t
  added = record {
    held = record {
      arena = arena_frame s x.arena (length-set v (4 * limit + 3 * d) k) cells;
      below = b;
      room = omega (arith, h.room, x.grown.len, length-set v (4 * limit + 3 * d) k);
      trees = added_trees;
      names = λ i q. rw (← lower (4 * limit + 3 * i + 1) (omega arith) (omega arith), ← lower (4 * limit + 3 * i + 2) (omega arith) (omega arith)) (h.names i q);
    };
    stack = added_stack d refl;
    outside = outside_set (4 * limit + 3 * d) k (omega (arith, x.grew)) (omega arith) (outside_within (omega arith) (omega arith) x.grown);
  }

pub held_below : {s : Text} {w : List ℕ} {n limit d : ℕ} → Held s w n limit (d + 1) → Held s w n limit d
held_below h = record {
  arena = h.arena;
  below = h.below;
  room = omega (arith, h.room);
  trees = λ i q. h.trees i (omega arith);
  names = λ i q. h.names i (omega arith);
}

-- the level d + 1
pub stack_top : (s : Text) (w : List ℕ) (limit d : ℕ)
    → stack_at s w limit (d + 1)
    ≡ level (part s (get_or w (4 * limit + 3 * d + 1) 0) (get_or w (4 * limit + 3 * d + 2) 0)) (trees_at s w (get_or w (4 * limit + 3 * d + 3) 0)) (stack_at s w limit d)
unfolding stack_at
stack_top s w limit d = rw (add-one d)

-- a level opened
module _ {s : Text} {w : List ℕ} {n limit d a l : ℕ} (h : Held s w n limit d) (room : 4 * limit + 3 * d + 3 < length w) (p : NamePlaced s a l) where
  abbrev top : ℕ
  top = 4 * limit + 3 * d

  abbrev w₁ : List ℕ
  w₁ = set w (4 * limit + 3 * d + 1) a

  abbrev w₂ : List ℕ
  w₂ = set w₁ (4 * limit + 3 * d + 2) l

  abbrev opening : List ℕ
  opening = set w₂ (4 * limit + 3 * d + 3) 0

  opening_length : length opening ≡ length w
  opening_length = simp length-set

  other : (q : ℕ) → (q ≡ top + 1 → ⊥) → (q ≡ top + 2 → ⊥) → (q ≡ top + 3 → ⊥) → get_or w q 0 ≡ get_or opening q 0
  other q e f g = sym (get_or-set_other w₂ (top + 3) q 0 0 g ∙ get_or-set_other w₁ (top + 2) q l 0 f ∙ get_or-set_other w (top + 1) q a 0 e)

  word_1 : get_or opening (top + 1) 0 ≡ a
  word_1 = get_or-set_other w₂ (top + 3) (top + 1) 0 0 (omega arith) ∙ get_or-set_other w₁ (top + 2) (top + 1) l 0 (omega arith) ∙ get_or-set_same w (top + 1) a 0 (omega arith)

  word_2 : get_or opening (top + 2) 0 ≡ l
  word_2 = get_or-set_other w₂ (top + 3) (top + 2) 0 0 (omega arith) ∙ get_or-set_same w₁ (top + 2) l 0 (simp length-set (omega arith))

  word_3 : get_or opening (top + 3) 0 ≡ 0
  word_3 = get_or-set_same w₂ (top + 3) 0 0 (simp length-set (omega arith))

  lower_words : (q : ℕ) → q ≤ top → get_or w q 0 ≡ get_or opening q 0
  lower_words q r = other q (omega arith) (omega arith) (omega arith)

  opened_cells : Agree w opening n
  opened_cells q r = let b = h.below in lower_words q (omega arith)

  opened_trees : (i : ℕ) → i ≤ d + 1 → get_or opening (4 * limit + 3 * i) 0 < n
  opened_trees i q = elim (dec_lt d i) [
    | yes f ↦ (let z : 4 * limit + 3 * i ≡ top + 3 = omega arith in rw (z, word_3) h.arena.links.some)
    | no f ↦ (let t = h.trees i (omega arith) in let e = lower_words (4 * limit + 3 * i) (omega arith) in omega arith)
  ]

  opened_names : (i : ℕ) → i < d + 1 → NamePlaced s (get_or opening (4 * limit + 3 * i + 1) 0) (get_or opening (4 * limit + 3 * i + 2) 0)
  opened_names i q = elim (ℕ_discrete i d) [
    | yes f ↦ rw (f, word_1, word_2) p
    | no f ↦ rw (← lower_words (4 * limit + 3 * i + 1) (omega arith), ← lower_words (4 * limit + 3 * i + 2) (omega arith)) (h.names i (omega arith))
  ]

  opening_outside : Outside w opening (4 * n) (top + 4)
  opening_outside =
      let b = h.below in
      outside_set (top + 3) 0 (omega arith) (omega arith) (outside_set (top + 2) l (omega arith) (omega arith) (outside_set (top + 1) a (omega arith) (omega arith) (outside_same w (4 * n) (top + 4))))

  pub opened : Opened s w opening n limit d (part s a l)
  opened = record {
    held = record {
      arena = arena_frame s h.arena opening_length opened_cells;
      below = h.below;
      room = omega (arith, opening_length);
      trees = opened_trees;
      names = opened_names;
    };
    stack =
        stack_top s opening limit d
        ∙ level_path (ap₂ (part s) word_1 word_2) (trees_none s opening _ word_3)
        (sym (stack_frame s opening h.arena.links opened_cells limit d (λ q b c. lower_words q c) h.trees));
    outside = opening_outside;
  }

-- a list closed, at the numbers that the code holds
module _ (s : Text) (w : List ℕ) (limit d : ℕ) {a l chain : ℕ} (e₁ : a ≡ get_or w (4 * limit + 3 * d + 1) 0) (e₂ : l ≡ get_or w (4 * limit + 3 * d + 2) 0) (e₃ : chain ≡ get_or w (4 * limit + 3 * d + 3) 0) where
  pub level_is : close (part s a l) (back (trees_at s w chain) none) ≡ closed_level s w limit d
  level_is = rw (e₁, e₂, e₃)
