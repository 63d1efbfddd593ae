-- Terms with their sums flattened: a sum inside a sum gives its summands. Their canonical texts are those of the trees that they
-- spell.
use Prim.Native.Nat.{ℕ}
use mathlib.Core.Path.{◌≡◌, refl, sym, ap, ap₂, subst, ◌∙◌}
use mathlib.Core.Bool.{Bool, true, false, cond, ◌&&◌}
use mathlib.Core.List.Permᴰ
use mathlib.Core.List.{List, [], ◌∷◌, ◌++◌, map, append_assoc, append-nil, Permᴰ}
use lib.Dec.{eqb}
use native.Mathlib.Omega.{arith}
use borrow.Author.Tests.{ne_eqb}
use Rattle.rules.specs.Bytes.{Text, same, sort}
use Rattle.rules.specs.Text.{count_of}
use Rattle.rules.specs.Writing.{listed, commas}
use Rattle.rules.specs.Tree.{Tree, variable, apply, Trees, atom_text, tamtplus}
use Rattle.rules.specs.Tree as T
use Rattle.rules.specs.Reading.{leaf}
use Rattle.rules.specs.Sums.{Canonical, shown, parts, flat, gather, canon, canons}
use Rattle.laws.proofs.Basics.Order.{sort_same, sort_perm}
use Rattle.runs.specs.Texts.{word_text}
use Rattle.runs.specs.declared.TheConstants.{PLUS}
use Rattle.flattening.specs.Terms.{Term, node, Terms, none, more, canon_text, canon_texts}
use Rattle.flattening.specs.Items.{adds}
use Rattle.flattening.specs.Spelling.{flat_by, splice_by, flatten, flattens, splice, splices, Word, Spells, as_variable, as_atom, as_apply, SpellsAll, spell_none, spell_more}
use Rattle.flattening.proofs.ItemTokens.{Named}
use Rattle.flattening.proofs.ItemTerms.{tree_by, tree_of, trees_of, NamedTerm, of, NamedTerms, nil, both}

module _ (s : Text) where
  -- ---- canonical texts

  abbrev pub text_of : Term → Text
  text_of t = canon_text s PLUS t

  abbrev pub texts_of : Terms → List Text
  texts_of ts = canon_texts s PLUS ts

  not_plus : (x : ℕ) → Word s x → eqb x PLUS ≡ false
  not_plus x h = ne_eqb x PLUS h.other

  leaf_text : (x : ℕ) → text_of (node x none) ≡ word_text s x
  unfolding canon_text listed sort
  leaf_text x = go (eqb x PLUS)
    where
      go : (b : Bool) → listed (word_text s x) (cond b (sort []) []) ≡ word_text s x
      go true = refl
      go false = refl

  module _ (x : ℕ) (h : Word s x) where
    abbrev found : Trees → Canonical
    found us = gather (same (word_text s x) tamtplus) (word_text s x) (canons us)

    flatten_turn : {ts : Terms} {us : Trees} → SpellsAll s ts us → texts_of (flattens s ts) ≡ map shown (canons us)
        → Permᴰ (texts_of (splices s ts none)) (flat (canons us) ++ []) → text_of (flat_by (adds s x) x (flattens s ts) (splices s ts none)) ≡ shown (found us)
    unfolding flatten adds canon_text canon gather shown
    flatten_turn spell_none e p = leaf_text x
    flatten_turn (spell_more {t = t} {u = u} {ts = ts} {us = us} g gs) e p = go (adds s x) refl
      where
        n : Text
        n = word_text s x

        cs : List Canonical
        cs = canon u ∷ canons us

        go : (b : Bool) → adds s x ≡ b → text_of (flat_by b x (more (flatten s t) (flattens s ts)) (splice s t (splices s ts none))) ≡ shown (gather (same n tamtplus) n cs)
        go true a = ap (listed tamtplus) (sort_same p ∙ ap sort (append-nil (flat cs))) ∙ ap (λ (b : Bool). shown (gather b n cs)) (sym a)
        go false a =
            ap (λ (b : Bool). listed n (cond b (sort (texts_of (more (flatten s t) (flattens s ts)))) (texts_of (more (flatten s t) (flattens s ts))))) (not_plus x h)
            ∙ ap (listed n) e ∙ ap (λ (b : Bool). shown (gather b n cs)) (sym a)

    node_text : (t : Term) (ts : Terms) (cs : List Text) → texts_of (more t ts) ≡ cs → text_of (node x (more t ts)) ≡ listed (word_text s x) cs
    unfolding canon_text
    node_text t ts cs e = ap (λ (b : Bool). listed (word_text s x) (cond b (sort (texts_of (more t ts))) (texts_of (more t ts)))) (not_plus x h) ∙ ap (listed (word_text s x)) e

    splice_turn : {ts : Terms} {us : Trees} (rest : Terms) → SpellsAll s ts us → texts_of (flattens s ts) ≡ map shown (canons us)
        → Permᴰ (texts_of (splices s ts rest)) (flat (canons us) ++ texts_of rest)
        → Permᴰ (texts_of (splice_by (adds s x) x (flattens s ts) (splices s ts rest) rest)) (parts (found us) ++ texts_of rest)
    unfolding flatten adds canon_text canon gather parts
    splice_turn rest spell_none e p = Permᴰ.cons (leaf_text x) (Permᴰ.refl (texts_of rest))
    splice_turn rest (spell_more {t = t} {u = u} {ts = ts} {us = us} g gs) e p = go (adds s x) refl
      where
        n : Text
        n = word_text s x

        cs : List Canonical
        cs = canon u ∷ canons us

        go : (b : Bool) → adds s x ≡ b
            → Permᴰ (texts_of (splice_by b x (more (flatten s t) (flattens s ts)) (splice s t (splices s ts rest)) rest)) (parts (gather (same n tamtplus) n cs) ++ texts_of rest)
        go true a =
            subst (λ (b : Bool). Permᴰ (texts_of (splice s t (splices s ts rest))) (parts (gather b n cs) ++ texts_of rest)) (sym a)
            (Permᴰ.trans p (Permᴰ.append_right (texts_of rest) (Permᴰ.symm (sort_perm (flat cs)))))
        go false a =
            subst (λ (b : Bool). Permᴰ (texts_of (more (node x (more (flatten s t) (flattens s ts))) rest)) (parts (gather b n cs) ++ texts_of rest)) (sym a)
            (Permᴰ.cons (node_text (flatten s t) (flattens s ts) (map shown cs) e) (Permᴰ.refl (texts_of rest)))

  -- an atom is a letter with its digits in brackets, and no sum
  module _ (x y c : ℕ) (d : Text) (h : Word s x) (e : word_text s x ≡ c ∷ []) (f : word_text s y ≡ d) where
    pub atom_adds : adds s x ≡ false
    unfolding adds same
    atom_adds = ap (λ (n : Text). same n tamtplus) e ∙ go (eqb c 116)
      where
        go : (b : Bool) → b && false ≡ false
        go true = refl
        go false = refl

    letter_text : listed (c ∷ []) (d ∷ []) ≡ atom_text c d
    unfolding listed commas
    letter_text = ap (λ (l : Text). c ∷ 40 ∷ (l ++ (41 ∷ []))) (append-nil d)

    atom_shown : text_of (node x (more (node y none) none)) ≡ atom_text c d
    unfolding canon_text
    atom_shown = node_text x h (node y none) none (d ∷ []) (ap (λ (n : Text). n ∷ []) (leaf_text y ∙ f)) ∙ ap (λ (n : Text). listed n (d ∷ [])) e ∙ letter_text

    atom_flat : text_of (flatten s (node x (more (node y none) none))) ≡ atom_text c d
    unfolding flatten
    atom_flat = ap (λ (b : Bool). text_of (flat_by b x (more (node y none) none) (splices s (more (node y none) none) none))) atom_adds ∙ atom_shown

    atom_splice : (rest : Terms) → Permᴰ (texts_of (splice s (node x (more (node y none) none)) rest)) (atom_text c d ∷ texts_of rest)
    unfolding flatten canon_text
    atom_splice rest =
        subst (λ (b : Bool). Permᴰ (texts_of (splice_by b x (more (node y none) none) (splices s (more (node y none) none) rest) rest)) (atom_text c d ∷ texts_of rest)) (sym atom_adds)
        (Permᴰ.cons atom_shown (Permᴰ.refl (texts_of rest)))

  mutual
    unfolding flatten canon canon_text flat

    pub flatten_text : {t : Term} {u : Tree} → Spells s t u → text_of (flatten s t) ≡ shown (canon u)
    flatten_text (as_variable {x = x} h e) = leaf_text x ∙ e
    flatten_text (as_atom {x = x} {y = y} {c = c} {d = d} h k e f) = atom_flat x y c d h e f
    flatten_text (as_apply {x = x} {us = us} h e hs) = flatten_turn x h hs (flattens_texts hs) (splices_texts hs none) ∙ ap (λ (n : Text). shown (gather (same n tamtplus) n (canons us))) e

    flattens_texts : {ts : Terms} {us : Trees} → SpellsAll s ts us → texts_of (flattens s ts) ≡ map shown (canons us)
    flattens_texts spell_none = refl
    flattens_texts (spell_more h hs) = ap₂ (λ (a : Text) (l : List Text). a ∷ l) (flatten_text h) (flattens_texts hs)

    splice_texts : {t : Term} {u : Tree} → Spells s t u → (rest : Terms) → Permᴰ (texts_of (splice s t rest)) (parts (canon u) ++ texts_of rest)
    splice_texts (as_variable {x = x} h e) rest = Permᴰ.cons (leaf_text x ∙ e) (Permᴰ.refl (texts_of rest))
    splice_texts (as_atom {x = x} {y = y} {c = c} {d = d} h k e f) rest = atom_splice x y c d h e f rest
    splice_texts (as_apply {x = x} {ts = ts} {us = us} h e hs) rest =
        subst (λ (n : Text). Permᴰ (texts_of (splice s (node x ts) rest)) (parts (gather (same n tamtplus) n (canons us)) ++ texts_of rest)) e
        (splice_turn x h rest hs (flattens_texts hs) (splices_texts hs rest))

    splices_texts : {ts : Terms} {us : Trees} → SpellsAll s ts us → (rest : Terms) → Permᴰ (texts_of (splices s ts rest)) (flat (canons us) ++ texts_of rest)
    splices_texts spell_none rest = Permᴰ.refl (texts_of rest)
    splices_texts (spell_more {t = t} {u = u} {ts = ts} {us = us} h hs) rest =
        subst (Permᴰ (texts_of (splice s t (splices s ts rest)))) (sym (append_assoc (parts (canon u)) (flat (canons us)) (texts_of rest)))
        (Permᴰ.trans (splice_texts h (splices s ts rest)) (Permᴰ.append_left (parts (canon u)) (splices_texts hs rest)))

  -- ---- a term of names spells the tree that it is read as

  name_word : (x : ℕ) → Named s x → Word s x
  name_word x h =
      let l = h.long in
      let p = h.placed in
      record { token = record { placed = λ q. p }; plain = record { no_open = λ e. omega arith; no_shut = λ e. omega arith; no_comma = λ e. omega arith }; other = λ e. omega arith }

  leaf_spells : (x : ℕ) → Named s x → Spells s (node x none) (leaf (word_text s x))
  unfolding leaf
  leaf_spells x h = go (eqb (count_of 58 (word_text s x)) 0)
    where
      go : (b : Bool) → Spells s (node x none) (cond b (apply (word_text s x) T.none) (variable (word_text s x)))
      go true = as_apply (name_word x h) refl spell_none
      go false = as_variable (name_word x h) refl

  node_spells : (x : ℕ) → Named s x → {ts : Terms} {us : Trees} → SpellsAll s ts us → Spells s (node x ts) (tree_by (word_text s x) us)
  unfolding tree_by
  node_spells x h spell_none = leaf_spells x h
  node_spells x h (spell_more k ks) = as_apply (name_word x h) refl (spell_more k ks)

  mutual
    unfolding tree_of tree_by

    pub named_spells : {t : Term} → NamedTerm s t → Spells s t (tree_of s t)
    named_spells (of {x = x} h hs) = node_spells x h (named_spell_all hs)

    named_spell_all : {ts : Terms} → NamedTerms s ts → SpellsAll s ts (trees_of s ts)
    named_spell_all nil = spell_none
    named_spell_all (both h hs) = spell_more (named_spells h) (named_spell_all hs)
