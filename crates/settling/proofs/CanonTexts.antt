-- The text of canonical words is the canonical text.
use Prim.Native.Nat.{ℕ, ◌<◌}
use mathlib.Core.Path.{◌≡◌, refl, sym, ap, ap₂, ◌∙◌}
use mathlib.Core.Bool.{Bool, true, false, cond}
use mathlib.Core.List.{List, [], ◌∷◌, ◌++◌, append_assoc, append-nil, map}
use lib.Dec.{eqb}
use lib.ListN.{length}
use native.Mathlib.Omega.{arith}
use Rattle.rules.specs.Bytes.{sort}
use Rattle.runs.specs.Texts.{word_text, texts}
use Rattle.runs.proofs.WordTexts.{texts_append}
use Rattle.runs.specs.declared.TheConstants.{OPEN, SHUT, COMMA}
use Rattle.laws.proofs.Basics.Sorting.{sort_texts}
use Rattle.settling.specs.Orders.{sums_ordered}
use Rattle.flattening.specs.Terms.{Term, node, Terms, none, more, inner, sort_words, headed, words, canonical, canonicals, canon_text, canon_texts}
use Rattle.rules.specs.Writing.{commas, listed}
use Rattle.flattening.specs.Spelling.{NoMark}
use Rattle.settling.proofs.Canonicals.{PlainTerm, order_term}

module _ (s : List ℕ) where
  texts_inner : (l : List ℕ) (ls : List (List ℕ)) → texts s (inner (l ∷ ls)) ≡ texts s l ++ commas (map (texts s) ls)
  unfolding inner commas texts word_text
  texts_inner l [] = sym (append-nil (texts s l))
  texts_inner l (m ∷ ls) = texts_append s l (COMMA ∷ inner (m ∷ ls)) ∙ ap (λ (r : List ℕ). texts s l ++ (44 ∷ r)) (texts_inner m ls)

  texts_open : (l : List ℕ) → texts s (OPEN ∷ l) ≡ 40 ∷ texts s l
  unfolding texts word_text
  texts_open l = refl

  texts_shut : texts s (SHUT ∷ []) ≡ 41 ∷ []
  unfolding texts word_text
  texts_shut = refl

  texts_list : (l : List ℕ) (ls : List (List ℕ)) → texts s (OPEN ∷ (inner (l ∷ ls) ++ (SHUT ∷ []))) ≡ 40 ∷ (texts s l ++ (commas (map (texts s) ls) ++ (41 ∷ [])))
  texts_list l ls =
      texts_open (inner (l ∷ ls) ++ (SHUT ∷ []))
      ∙ ap (λ (r : List ℕ). 40 ∷ r) (texts_append s (inner (l ∷ ls)) (SHUT ∷ []) ∙ ap₂ (λ (a b : List ℕ). a ++ b) (texts_inner l ls) texts_shut ∙ append_assoc (texts s l) (commas (map (texts s) ls)) (41 ∷ []))

  texts_headed : (x : ℕ) (ls : List (List ℕ)) → texts s (headed x ls) ≡ listed (word_text s x) (map (texts s) ls)
  unfolding headed listed texts
  texts_headed x [] = append-nil (word_text s x)
  texts_headed x (l ∷ ls) =
      let t = texts s l in
      let r = commas (map (texts s) ls) in
      let e : word_text s x ++ (40 ∷ (t ++ (r ++ (41 ∷ [])))) ≡ ((word_text s x ++ (40 ∷ t)) ++ r) ++ (41 ∷ []) = simp append_assoc in
      ap (λ (r : List ℕ). word_text s x ++ r) (texts_list l ls) ∙ e

  sort_map : (ls : List (List ℕ)) → map (texts s) (sort_words s ls) ≡ sort (map (texts s) ls)
  unfolding sort_words
  sort_map ls = sort_texts (texts s) ls

  sorted_map : (b : Bool) (ls : List (List ℕ)) → map (texts s) (cond b (sort_words s ls) ls) ≡ cond b (sort (map (texts s) ls)) (map (texts s) ls)
  sorted_map true ls = sort_map ls
  sorted_map false ls = refl

  module _ (plus : ℕ) where
    mutual
      unfolding canonical canon_text

      pub canonical_text : (t : Term) → texts s (canonical s plus t) ≡ canon_text s plus t
      canonical_text (node x ts) =
          texts_headed x (cond (eqb x plus) (sort_words s (canonicals s plus ts)) (canonicals s plus ts))
          ∙ ap (listed (word_text s x)) (sorted_map (eqb x plus) (canonicals s plus ts) ∙ ap (λ (r : List (List ℕ)). cond (eqb x plus) (sort r) r) (canonicals_texts ts))

      canonicals_texts : (ts : Terms) → map (texts s) (canonicals s plus ts) ≡ canon_texts s plus ts
      canonicals_texts none = refl
      canonicals_texts (more t ts) = ap₂ (λ (a : List ℕ) (b : List (List ℕ)). a ∷ b) (canonical_text t) (canonicals_texts ts)

    -- the pass over the words of a term leaves words whose text is the canonical text
    pub ordered_text : NoMark plus → (t : Term) → PlainTerm t → length (words t) < 65536 → texts s (sums_ordered s plus (length (words t)) (words t)) ≡ canon_text s plus t
    unfolding sums_ordered
    ordered_text pp t h f =
        let e : words t ≡ [] ++ (words t ++ []) = sym (append-nil (words t)) in
        let k : sums_ordered s plus (length (words t)) ([] ++ (words t ++ [])) ≡ [] ++ (canonical s plus t ++ []) = order_term s plus pp t h [] [] (length (words t)) (omega arith) (omega arith) (λ e. omega arith) in
        ap (texts s) (ap (sums_ordered s plus (length (words t))) e ∙ k ∙ append-nil (canonical s plus t)) ∙ canonical_text t
