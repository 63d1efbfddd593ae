-- What is written for a text, once its sums are sorted, has the canonical text of the tree that is read.
use Prim.Native.Nat.{ℕ, suc, ◌<◌, ◌≤◌}
use mathlib.Core.Path.{◌≡◌, refl, sym, ap, subst, ◌∙◌}
use mathlib.Core.List.{List, [], ◌∷◌, map, append-nil}
use Rattle.std.specs.Prelude.{Option, Some, None}
use lib.ListN.{length, take, drop}
use native.Mathlib.Omega.{arith}
use Rattle.rules.specs.Bytes.{Text}
use Rattle.rules.specs.Maybe.{◌>>=◌}
use Rattle.rules.specs.Tree.{Tree}
use Rattle.rules.specs.Reading.{as_written, read_term, read_text, wholly, canonical_text}
use Rattle.rules.specs.Sums.{canonical}
use Rattle.runs.specs.declared.TheConstants.{PLUS}
use Rattle.runs.specs.Texts.{texts}
use Rattle.settling.specs.Orders.{sums_ordered}
use Rattle.flattening.specs.Terms.{Term, words}
use Rattle.flattening.specs.Items.{Item, begin, shut, comma, name, wanting, write, writes, items_at, text_words}
use Rattle.flattening.proofs.ItemTokens.{item_text, Proper, tokens_items, items_proper}
use Rattle.flattening.proofs.ItemTerms.{Read, item_term, tree_of, term_read, good_term, GoodTerm, NamedTerm}
use Rattle.flattening.specs.Spelling.{flatten}
use Rattle.flattening.proofs.Flattening.{named_spells}
use Rattle.settling.proofs.NameWords.{spelled_ordered}
use Rattle.flattening.proofs.ItemWords.{term_written, after_term}

module _ (s : Text) where
  -- ---- a whole text

  length_texts : (is : List Item) → length (map (item_text s) is) ≡ length is
  length_texts [] = refl
  length_texts (i ∷ is) = ap suc (length_texts is)

  -- the tree that reading gives, and the words that are written
  abbrev Agree : Option Tree → Option (List ℕ) → Type 0
  Agree None None = Unit
  Agree None (Some ws) = ⊥
  Agree (Some t) None = ⊥
  Agree (Some t) (Some ws) = (u : Term) × NamedTerm s u × (tree_of s u ≡ t) × (words (flatten s u) ≡ ws)

  agree_by : (n : ℕ) (o : Read Term) → GoodTerm s n o → Agree (wholly (o >>= λ (t, is). Some (tree_of s t, map (item_text s) is))) (after_term s o [])
  unfolding write
  agree_by n None g = tt
  agree_by n (Some (t, [])) g = (t, g.0, refl, sym (append-nil (words (flatten s t))))
  agree_by n (Some (t, begin ∷ is)) g = tt
  agree_by n (Some (t, shut ∷ is)) g = tt
  agree_by n (Some (t, comma ∷ is)) g = tt
  agree_by n (Some (t, name x ∷ is)) g = tt

  agree_items : (is : List Item) → Proper s is → Agree (wholly (read_term as_written (length (map (item_text s) is)) (map (item_text s) is))) (write s is wanting [])
  agree_items is p =
      subst (λ (o : Option Tree). Agree o (write s is wanting []))
      (sym (ap (λ (k : ℕ). wholly (read_term as_written k (map (item_text s) is))) (length_texts is) ∙ ap wholly (term_read s (length is) is p)))
      (subst (Agree (wholly (item_term (length is) is >>= λ (t, js). Some (tree_of s t, map (item_text s) js)))) (sym (term_written s (length is) is [] p (omega arith)))
      (agree_by (length is) (item_term (length is) is) (good_term s (length is) is p)))

  module _ (to at : ℕ) (fits : to ≤ length s) (small : to < 65536) where
    agree : Agree (read_text as_written (drop at (take to s))) (text_words s (take to s) at)
    unfolding read_text text_words
    agree = subst (λ (o : Option (List Text)). Agree (o >>= λ ts. wholly (read_term as_written (length ts) ts)) (writes s (items_at (take to s) at) wanting [])) (sym (tokens_items s to fits small at)) (go (items_at (take to s) at) (λ is e. items_proper s to fits small at is e))
      where
        go : (o : Option (List Item)) → ((is : List Item) → o ≡ Some is → Proper s is)
            → Agree ((o >>= λ is. Some (map (item_text s) is)) >>= λ ts. wholly (read_term as_written (length ts) ts)) (writes s o wanting [])
        go None h = tt
        go (Some is) h = agree_items is (h is refl)

    -- the words, sorted, have the canonical text; no words, no canonical text
    canonical_of : (o : Option Tree) (p : Option (List ℕ)) → Agree o p → (ws : List ℕ) → p ≡ Some ws → length ws < 65536
        → (o >>= λ t. Some (canonical t)) ≡ Some (texts s (sums_ordered s PLUS (length ws) ws))
    unfolding canonical
    canonical_of None None a ws e l = let z : ◌≡◌ {A = ℕ} 0 1 = cc in absurd (omega arith)
    canonical_of None (Some vs) a ws e l = absurd a
    canonical_of (Some t) None a ws e l = absurd a
    canonical_of (Some t) (Some vs) (u, h, f, g) ws e l =
        let z : words (flatten s u) ≡ ws = cc in
        let k : length (words (flatten s u)) < 65536 = rw z l in
        ap Some (ap canonical (sym f) ∙ sym (spelled_ordered s (named_spells s h) k) ∙ rw z)

    pub readable : (ws : List ℕ) → text_words s (take to s) at ≡ Some ws → length ws < 65536
        → canonical_text (drop at (take to s)) ≡ Some (texts s (sums_ordered s PLUS (length ws) ws))
    unfolding canonical_text
    readable ws e l = canonical_of (read_text as_written (drop at (take to s))) (text_words s (take to s) at) agree ws e l

    none_of : (o : Option Tree) (p : Option (List ℕ)) → Agree o p → p ≡ None → (o >>= λ t. Some (canonical t)) ≡ None
    none_of None p a e = refl
    none_of (Some t) None a e = absurd a
    none_of (Some t) (Some ws) a e = let z : ◌≡◌ {A = ℕ} 0 1 = cc in absurd (omega arith)

    pub unreadable : text_words s (take to s) at ≡ None → canonical_text (drop at (take to s)) ≡ None
    unfolding canonical_text
    unreadable e = none_of (read_text as_written (drop at (take to s))) (text_words s (take to s) at) agree e
