-- The words of a tree of an area, written apart from its cells.
use Prim.Native.Nat.{ℕ, ◌+◌, ◌*◌, ◌<◌, ◌≤◌}
use mathlib.Core.Path.{◌≡◌, refl, sym, ap, subst, ◌∙◌}
use mathlib.Core.Bool.{Bool, false}
use mathlib.Core.List.{List, [], ◌∷◌, ◌++◌, append_assoc}
use lib.ListN.{length, length-append}
use native.Mathlib.Omega.{arith}
use Rattle.rules.specs.Bytes.{Text, same}
use Rattle.rules.specs.Tree.{Tree, atom, apply, Trees, children, size, sizes, tamtplus}
use Rattle.rules.specs.Tree as T
use Rattle.tree.specs.declared.area.Area.{Area}
use Rattle.tree.specs.declared.kinds.Kind.TheVariants.{Atom}
use Rattle.tree.specs.Cells.{kind_of}
use Rattle.tree.specs.Areas.{cell_kind, next_in, name_in, tree_in, trees_in, sum_in}
use Rattle.tree.proofs.ByKind.{number_atom, atom_kind, tree_an_atom}
use Rattle.tree.proofs.Decoding.{Kind, application, a_variable, an_atom, kind, trees_none, trees_more, tree_variable, tree_apply, size_pos}
use Rattle.tree.proofs.Lists.{list_size}
use Rattle.runs.specs.declared.TheConstants.{SPAN, OPEN, SHUT, COMMA}
use Rattle.runs.specs.declared.order.TheConstants.{BYTES}
use Rattle.runs.specs.Texts.{word_text}
use Rattle.flattening.specs.Terms.{node, none, more}
use Rattle.flattening.specs.declared.brackets.Bracket.{Bracket}
use Rattle.flattening.specs.Items.{adds, of_sum, opening, bracket, closing}
use Rattle.flattening.specs.declared.writer.Writer.{Writer}
use Rattle.flattening.specs.Writers.{Appended}
use Rattle.flattening.specs.Spelling.{Word, Spells, as_variable, as_atom, as_apply, spell_none, spell_more, term_words, list_words}
use Rattle.flattening.proofs.Flattening.{atom_adds}
use Rattle.flattening.proofs.ItemWords.{leaf_words, one_words, more_words, node_words}
use Rattle.flattening.proofs.WriterSteps.{opening_short, closing_short, appended_more}
use Rattle.equivalence.specs.Words.{TermWritten, TermsWritten}
use Rattle.equivalence.proofs.Wording.{letter_word, letter_text}

-- ---- a name alone, and an atom

alone_written : {s : Text} {y z : Writer} {x : ℕ} {t : Tree} (b : Bool) → Spells s (node x none) t → Appended y z (x ∷ []) → TermWritten s b t y z
alone_written {s} {y} {z} {x} {t} b h g =
    let e = leaf_words s b x in
    let k : length (term_words s b (node x none)) ≡ 1 = ap length e in
    record {
      term = node x none;
      spells = h;
      words = subst (Appended y z) (sym e) g;
      short = omega (arith, size_pos t);
    }

letters_written : {s : Text} {a c : Writer} {l x : ℕ} {d : Text} (b : Bool) → l < 256 → Word s x → word_text s x ≡ d → Appended a c ((BYTES + l) * SPAN ∷ OPEN ∷ x ∷ SHUT ∷ []) → TermWritten s b (atom l d) a c
letters_written {s} {a} {c} {l} {x} {d} b m h e g =
    let y = (BYTES + l) * SPAN in
    let lw = letter_word s l y refl m in
    let lt = letter_text s l y refl m in
    let t = node y (more (node x none) none) in
    let z : y ∷ OPEN ∷ x ∷ SHUT ∷ [] ≡ term_words s b t =
    ap (λ (m : List ℕ). y ∷ OPEN ∷ (m ++ (SHUT ∷ []))) (sym (one_words s false (node x none) ∙ leaf_words s false x)) ∙ node_words s false b y (node x none) none (atom_adds s y x l d lw lt e) in
    let k : 4 ≡ length (term_words s b t) = ap length z in
    record {
      term = t;
      spells = as_atom lw h lt e;
      words = subst (Appended a c) z g;
      short = omega (arith, size_pos (atom l d));
    }

module _ (a : Area) (i : ℕ) {x : ℕ} (h : Word a.sheet.now x) (e : word_text a.sheet.now x ≡ name_in a i) where
  name_spells : (first : ℕ) → first ≡ 0 → trees_in a first ≡ children (tree_in a i) → ((l : ℕ) → cell_kind a i ≡ Atom l → ⊥) → Spells a.sheet.now (node x none) (tree_in a i)
  unfolding children
  name_spells first z f n = go (kind (kind_of a.work.now i))
    where
      go : Kind (kind_of a.work.now i) → Spells a.sheet.now (node x none) (tree_in a i)
      go (application k) =
          let g = tree_apply a.sheet.now a.work.now i k in
          let y : T.none ≡ children (tree_in a i) = sym (trees_none a.sheet.now a.work.now first z) ∙ f in
          let u = y ∙ ap children g in
          subst (Spells a.sheet.now (node x none)) (sym (g ∙ ap (apply (name_in a i)) (sym u))) (as_apply h e spell_none)
      go (a_variable p q) = subst (Spells a.sheet.now (node x none)) (sym (tree_variable a.sheet.now a.work.now i p q)) (as_variable h e)
      go (an_atom p) = absurd (n (kind_of a.work.now i) (atom_kind (kind_of a.work.now i) p))

  pub leaf_written : {y z : Writer} {first : ℕ} {b : Bool} → first ≡ 0 → trees_in a first ≡ children (tree_in a i) → ((l : ℕ) → cell_kind a i ≡ Atom l → ⊥) → Appended y z (x ∷ [])
      → TermWritten a.sheet.now b (tree_in a i) y z
  leaf_written {first = first} {b = b} z f n g = alone_written b (name_spells first z f n) g

  pub atom_written : {y z : Writer} {l : ℕ} {b : Bool} → 0 < i → i < a.free → cell_kind a i ≡ Atom l → Appended y z ((BYTES + l) * SPAN ∷ OPEN ∷ x ∷ SHUT ∷ [])
      → TermWritten a.sheet.now b (tree_in a i) y z
  atom_written {l = l} {b = b} p q k g =
      let m : l < 256 = omega (arith, (number_atom (kind_of a.work.now i) l k).1, (a.arena.cell i p q).small) in
      rw (tree_an_atom a i l k) (letters_written b m h e g)

-- ---- a name with its list

-- the tree of a cell that has children
pub branch : (a : Area) (i : ℕ) {first : ℕ} → 0 < first → first < a.free → trees_in a first ≡ children (tree_in a i) → tree_in a i ≡ apply (name_in a i) (trees_in a first)
unfolding children
branch a i {first} p q f = go (kind (kind_of a.work.now i))
  where
    some : trees_in a first ≡ T.more (tree_in a first) (trees_in a (next_in a first))
    some = trees_more a.sheet.now a.arena.links first p q

    go : Kind (kind_of a.work.now i) → tree_in a i ≡ apply (name_in a i) (trees_in a first)
    go (application k) = let g = tree_apply a.sheet.now a.work.now i k in g ∙ ap (apply (name_in a i)) (sym (f ∙ ap children g))
    go (a_variable x y) = let g = sym some ∙ f ∙ ap children (tree_variable a.sheet.now a.work.now i x y) in absurd cc
    go (an_atom x) = let g = sym some ∙ f ∙ ap children (tree_an_atom a i (kind_of a.work.now i) (atom_kind (kind_of a.work.now i) x)) in absurd cc

-- and its nodes
pub branch_size : (a : Area) (i : ℕ) {first : ℕ} → 0 < first → first < a.free → trees_in a first ≡ children (tree_in a i) → size (tree_in a i) ≡ 1 + sizes (trees_in a first)
unfolding size
branch_size a i p q f = ap size (branch a i p q f)

-- whether it is a sum
pub branch_sum : (a : Area) (i : ℕ) {first : ℕ} → 0 < first → first < a.free → trees_in a first ≡ children (tree_in a i) → sum_in (tree_in a i) ≡ same (name_in a i) tamtplus
branch_sum a i p q f = ap sum_in (branch a i p q f)

module _ {x y : Writer} (br : Bracket) (l m k : ℕ) (g : Appended x y (opening br l)) (room : x.end + 5 * m ≤ length x.words.now) (f : m ≡ 1 + k) where
  pub list_room : y.end + 5 * k ≤ length y.words.now
  list_room = omega (arith, opening_short br l, g.end, g.wrote.outside.len)

  pub close_room : {s : Text} {z : Writer} {ts : Trees} {b : Bool} → k ≡ sizes ts → TermsWritten s b ts y z → z.end < length z.words.now
  close_room e h = omega (arith, list_room, h.words.end, h.short, h.words.wrote.outside.len)

  pub node_written : {s : Text} {z u : Writer} (outer : Bracket) {sum : Bool} {n : Text} {ts : Trees} → k ≡ sizes ts → Word s l → word_text s l ≡ n → sum ≡ same n tamtplus
      → TermsWritten s (of_sum br) ts y z → br ≡ bracket sum (of_sum outer) → Appended z u (closing br) → TermWritten s (of_sum outer) (apply n ts) x u
  unfolding adds size
  node_written {s} {z} {u} outer {sum} {n} {ts} kt h e is w ec cl =
      let t = w.term in
      let us = w.terms in
      let o = opening br l in
      let m = list_words s (of_sum br) t us in
      let ad : adds s l ≡ sum = ap (λ (m : Text). same m tamtplus) e ∙ sym is in
      let i : o ++ (m ++ closing br) ≡ term_words s (of_sum outer) (node l (more t us)) =
      rw ec (node_words s sum (of_sum outer) l t us ad) in
      let li : length (o ++ (m ++ closing br)) ≡ length (term_words s (of_sum outer) (node l (more t us))) = ap length i in
      let l₁ = length-append o (m ++ closing br) in
      let l₂ = length-append m (closing br) in
      let e₁ = w.words.end in
      let e₂ = w.short in
      let e₃ = w.words.wrote.outside.len in
      let e₄ = g.wrote.outside.len in
      let e₅ = opening_short br l in
      let e₆ = closing_short br in
      let e₇ = g.end in
      record {
        term = node l (more t us);
        spells = as_apply h e w.spells;
        words = subst (Appended x u) i (appended_more g (appended_more w.words cl (omega arith)) (omega arith));
        short = omega arith;
      }

-- ---- a list

pub one_written : {s : Text} {x y : Writer} {t : Tree} {b : Bool} → TermWritten s b t x y → TermsWritten s b (T.more t T.none) x y
unfolding size
one_written {s} {x} {y} {t} {b} g =
    let o = one_words s b g.term in
    let lo = ap length o in
    let e = g.short in
    record {
      term = g.term;
      terms = none;
      spells = spell_more g.spells spell_none;
      words = subst (Appended x y) (sym o) g.words;
      short = omega arith;
    }

pub more_written : {s : Text} {x y z u : Writer} {t : Tree} {ts : Trees} {b : Bool} → TermWritten s b t x y → Appended y z (COMMA ∷ []) → TermsWritten s b ts z u → x.end + 5 * sizes (T.more t ts) ≤ length x.words.now
    → TermsWritten s b (T.more t ts) x u
unfolding size
more_written {s} {x} {y} {z} {u} {t} {ts} {b} g c d room =
    let o = term_words s b g.term in
    let m = list_words s b d.term d.terms in
    let i : (o ++ (COMMA ∷ [])) ++ m ≡ list_words s b g.term (more d.term d.terms) = append_assoc o (COMMA ∷ []) m ∙ sym (more_words s b g.term d.term d.terms) in
    let li : length ((o ++ (COMMA ∷ [])) ++ m) ≡ length (list_words s b g.term (more d.term d.terms)) = ap length i in
    let l₁ = length-append (o ++ (COMMA ∷ [])) m in
    let l₂ = length-append o (COMMA ∷ []) in
    let e₁ = g.words.end in
    let e₂ = g.short in
    let e₃ = c.end in
    let e₄ = d.short in
    record {
      term = g.term;
      terms = more d.term d.terms;
      spells = spell_more g.spells d.spells;
      words = subst (Appended x u) i (appended_more (appended_more g.words c (omega arith)) d.words (omega arith));
      short = omega arith;
    }

-- a list goes on
pub rest_some : (a : Area) (i : ℕ) {j : ℕ} → 0 < i → i < a.free → j ≡ next_in a i → 0 < j → (sizes (trees_in a i) ≡ size (tree_in a i) + sizes (trees_in a j)) × (0 < sizes (trees_in a j)) × (0 < size (tree_in a i))
rest_some a i {j} p q e r =
    let f : j < a.free = omega (arith, e, a.arena.links.next i p q) in
    (list_size a i p q e, omega (arith, list_size a j r f refl, size_pos (tree_in a j)), size_pos (tree_in a i))
