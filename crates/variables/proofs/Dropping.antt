-- Repeats dropped from sorted places, in a loop; and gathered places put in order.
use Prim.Native.Nat.{ℕ, ◌+◌, ◌-◌, ◌<◌, ◌≤◌}
use mathlib.Core.Path.{◌≡◌, refl, sym, ap, ap₂, subst, ◌∙◌}
use mathlib.Core.Bool.{Bool, true, false}
use mathlib.Core.List.{List, [], ◌∷◌, ◌++◌, append_assoc, map}
use lib.ListN.{length, get_or, set, take, drop, length-set, length-drop, length-append, get_or-append, drop_of_length-le}
use lib.Seq.{slice, slice-cons, get_or-set_other, get_or-drop, get_or-take, ext_get_or, length-take-le, take-suc-set, take-length, drop-append_seam}
use native.Mathlib.Omega.{arith}
use native.Mathlib.Numerals.{add-one}
use Rattle.std.proofs.lemmas.List.{get_or-append_right, map-append}
use Rattle.rules.specs.Bytes.{Text, sort}
use Rattle.text.specs.Places.{text_at, places_upto}
use Rattle.laws.specs.Sorting.{sort_by}
use Rattle.text.proofs.Loops.{drop_next}
use Rattle.laws.proofs.Basics.Sorting.{sort_texts, length_sort}
use Rattle.text.proofs.Slices.{drop_take}
use Rattle.tree.proofs.Parting.{Parted, joined_outside}
use Rattle.variables.specs.Ordered.{unique}
use Rattle.variables.specs.Variables.{Variable, Variables, VariablePlaces, repeats, Dropped, Ordered}
use Rattle.variables.proofs.Ordering.{unique_skip, unique_keep, unique_sort}
use Rattle.variables.proofs.Naming.{variables_append, variables_sort}

module _ (s : Text) (w : List ℕ) (i end : ℕ) (p : i < end) (q : end ≤ length w) where
  pub first_word : slice i end w ≡ get_or w i 0 ∷ slice (i + 1) end w
  first_word = rw (add-one i) (slice-cons i end w 0 p q)

abbrev texts : Text → List ℕ → List Text
texts s w = map (text_at s) w

no_more : (l : List Text) → l ≡ l ++ []
no_more [] = refl
no_more (x ∷ l) = ap (λ (m : List Text). x ∷ m) (no_more l)

-- ---- the loop that drops repeats

-- the words of w up to i without repeats are the first of v
pub record Dropping (s : Text) (w v : List ℕ) (i kept : ℕ) : Type 0 where
  pub len : length v ≡ length w
  pub mid : kept ≤ i
  pub high : i ≤ length w
  pub rest : (p : ℕ) → i ≤ p → get_or v p 0 ≡ get_or w p 0
  pub places : Variables s w → Variables s (take kept v) × Variables s (drop i w)
  pub are : texts s (take kept v) ++ unique (texts s (drop i w)) ≡ unique (texts s w)

pub dropping_starts : (s : Text) (w : List ℕ) → Dropping s w w 0 0
unfolding Variables
dropping_starts s w = record {
  len = refl;
  mid = omega arith;
  high = omega arith;
  rest = λ p h. refl;
  places = λ h. (tt, h);
  are = refl;
}

module _ {s : Text} {w v : List ℕ} {i kept : ℕ} (d : Dropping s w v i kept) (p : i < length w) where
  rest_same : drop i v ≡ drop i w
  rest_same = ext_get_or 0 (drop i v) (drop i w) (omega (arith, length-drop i v, length-drop i w, d.len)) (λ j l. get_or-drop i v j 0 ∙ d.rest (i + j) (omega arith) ∙ sym (get_or-drop i w j 0))

  first_text : texts s (drop i w) ≡ text_at s (get_or w i 0) ∷ texts s (drop (i + 1) w)
  first_text = ap (map (text_at s)) (drop_next w i p)

  heads : repeats (texts s (drop i v)) ≡ repeats (text_at s (get_or w i 0) ∷ texts s (drop (i + 1) w))
  heads = ap (λ (l : List ℕ). repeats (texts s l)) rest_same ∙ ap repeats first_text

  next_places : Variables s (drop i w) → Variable s (get_or w i 0) × Variables s (drop (i + 1) w)
  unfolding Variables
  next_places h = subst (Variables s) (drop_next w i p) h

  -- the words from i on, as the code cuts them
  cut_same : take (length v - i) (drop i v) ≡ drop i v
  cut_same = ap (λ (j : ℕ). take j (drop i v)) (sym (length-drop i v)) ∙ take-length (drop i v)

  told : {b : Bool} → b ≡ repeats (texts s (take (length v - i) (drop i v))) → repeats (text_at s (get_or w i 0) ∷ texts s (drop (i + 1) w)) ≡ b
  told r = sym (r ∙ ap (λ (l : List ℕ). repeats (texts s l)) cut_same ∙ heads)

  pub dropping_skips : true ≡ repeats (texts s (take (length v - i) (drop i v))) → Dropping s w v (i + 1) kept
  dropping_skips r = record {
    len = d.len;
    mid = omega (arith, d.mid);
    high = omega arith;
    rest = λ x h. d.rest x (omega arith);
    places = λ h. ((d.places h).0, (next_places (d.places h).1).1);
    are = ap (λ (l : List Text). texts s (take kept v) ++ l) (sym (ap unique first_text ∙ unique_skip (text_at s (get_or w i 0)) (texts s (drop (i + 1) w)) (told r))) ∙ d.are;
  }

  pub dropping_keeps : {x : ℕ} → false ≡ repeats (texts s (take (length v - i) (drop i v))) → x ≡ get_or v i 0 → Dropping s w (set v kept x) (i + 1) (kept + 1)
  unfolding Variables
  dropping_keeps {x} r e =
      let n = d.len in
      let m = d.mid in
      let same_word : x ≡ get_or w i 0 = e ∙ d.rest i (omega arith) in
      let longer : take (kept + 1) (set v kept x) ≡ take kept v ++ (x ∷ []) = rw add-one (take-suc-set v kept x (omega arith)) in
      let front : texts s (take (kept + 1) (set v kept x)) ≡ texts s (take kept v) ++ (text_at s x ∷ []) = ap (map (text_at s)) longer ∙ map-append (text_at s) (take kept v) (x ∷ []) in
      let back : text_at s x ∷ unique (texts s (drop (i + 1) w)) ≡ unique (texts s (drop i w)) =
      ap (λ (y : ℕ). text_at s y ∷ unique (texts s (drop (i + 1) w))) same_word
      ∙ sym (ap unique first_text ∙ unique_keep (text_at s (get_or w i 0)) (texts s (drop (i + 1) w)) (told r))
      in
      record {
        len = length-set v kept x ∙ d.len;
        mid = omega arith;
        high = omega arith;
        rest = λ y h. get_or-set_other v kept y x 0 (λ e. omega arith) ∙ d.rest y (omega arith);
        places = λ h. (
            let h₀ = d.places h in
            let h₁ = next_places h₀.1 in
            (subst (Variables s) (sym longer) (variables_append s (take kept v) (x ∷ []) h₀.0 (subst (Variable s) (sym same_word) h₁.0, tt)), h₁.1)
            );
        are = ap (λ (l : List Text). l ++ unique (texts s (drop (i + 1) w))) front
            ∙ append_assoc (texts s (take kept v)) (text_at s x ∷ []) (unique (texts s (drop (i + 1) w)))
            ∙ ap (λ (l : List Text). texts s (take kept v) ++ l) back
            ∙ d.are;
      }

pub dropped : {s : Text} {w v : List ℕ} {i kept : ℕ} → length w ≤ i → Dropping s w v i kept → Dropped s w v kept
unfolding unique
dropped {s} {w} {v} {i} {kept} p d = record {
  len = d.len;
  most_is = omega (arith, d.mid, d.high);
  places = λ x. (d.places x).0;
  are = no_more (texts s (take kept v)) ∙ ap (λ (l : List ℕ). texts s (take kept v) ++ unique (texts s l)) (sym (drop_of_length-le w {i = i} p)) ∙ d.are;
}

-- ---- gathered places put in order

sorted_texts : (s : Text) (l : List ℕ) → map (text_at s) (sort_by (places_upto s) l) ≡ sort (map (text_at s) l)
unfolding places_upto
sorted_texts s l = sort_texts (text_at s) l

front_of : (k : ℕ) (l r : List ℕ) → k ≤ length l → take k (l ++ r) ≡ take k l
front_of k l r p =
    let a = length-append l r in
    let m : length (take k (l ++ r)) ≡ k = length-take-le k (l ++ r) (omega arith) in
    ext_get_or 0 (take k (l ++ r)) (take k l) (m ∙ sym (length-take-le k l p))
    (λ i q. get_or-take k (l ++ r) i 0 (omega arith) ∙ get_or-append l r 0 i (omega arith) ∙ sym (get_or-take k l i 0 (omega arith)))

-- the places p in front of r are sorted as q, and those without repeats are the first k of u; t is r with other words at its front
module _ {s : Text} {w v q u : List ℕ} (p r t : List ℕ) {end k most : ℕ} {ns : List Text} (n : VariablePlaces s w v 0 end most ns) (e : v ≡ p ++ r) (f : length p ≡ end)
    (o : q ≡ sort_by (places_upto s) p) (g : length t ≡ length r) (h : drop (length p) t ≡ drop (length p) r) (d : Dropped s q u k) where
  lengths : (length q ≡ length p) × (length u ≡ length p)
  lengths = let a = ap length o ∙ length_sort (places_upto s) p in (a, d.len ∙ a)

  after : (x : ℕ) → most + most ≤ x → get_or (u ++ t) x 0 ≡ get_or w x 0
  after x l =
      let m = length p in
      let b = n.most_is in
      let y : m + (x - m - m) ≡ x - m = omega arith in
      get_or-append_right u t m x 0 lengths.1 (omega arith)
      ∙ ap (λ (j : ℕ). get_or t j 0) (sym y) ∙ sym (get_or-drop m t (x - m - m) 0)
      ∙ ap (λ (l : List ℕ). get_or l (x - m - m) 0) h
      ∙ get_or-drop m r (x - m - m) 0 ∙ ap (λ (j : ℕ). get_or r j 0) y
      ∙ sym (get_or-append_right p r m x 0 refl (omega arith))
      ∙ sym (ap (λ (l : List ℕ). get_or l x 0) e) ∙ n.kept.above x (omega arith)

  gathered : slice 0 end v ≡ p
  gathered = ap (λ (j : ℕ). take j v) (sym f) ∙ ap (take (length p)) e ∙ front_of (length p) p r (omega arith) ∙ take-length p

  pub in_order : {x : List ℕ} → x ≡ u ++ t → Ordered s w x 0 k most ns
  in_order l =
      let a = lengths in
      let b = n.most_is in
      let c = front_of k u t (omega (arith, d.most_is)) in
      rw l record {
        kept = record { len = length-append u t ∙ (omega (arith, length-append p r, ap length e, n.kept.len)); below = λ x l. absurd (omega arith); above = λ x l. after x (omega arith) };
        grew = omega arith;
        most_is = omega (arith, d.most_is);
        places = subst (Variables s) (sym c) (d.places (subst (Variables s) (sym o) (variables_sort s (places_upto s) p (subst (Variables s) gathered n.places))));
        are = ap (map (text_at s)) c ∙ d.are ∙ ap unique (ap (map (text_at s)) o ∙ sorted_texts s p ∙ ap sort (ap (map (text_at s)) (sym gathered) ∙ n.are)) ∙ unique_sort ns;
      }

-- the same above the cells of an area
pub ordered_above : {s : Text} {w c r u : List ℕ} {m k most : ℕ} {ns : List Text} → Parted w c r m → Ordered s r u 0 k most ns → Ordered s w (c ++ u) m (m + k) most ns
ordered_above {s} {w} {c} {r} {u} {m} {k} {most} h o =
    let f = h.first in
    let d : drop m (c ++ u) ≡ u = ap (λ (j : ℕ). drop j (c ++ u)) (sym f) ∙ drop-append_seam c u in
    let l : m + k - m ≡ k = omega arith in
    let e : slice m (m + k) (c ++ u) ≡ slice 0 k u = drop_take m (m + k) (c ++ u) ∙ ap₂ (λ (j : ℕ) (l : List ℕ). take j l) l d in
    record {
      kept = joined_outside h o.kept (omega arith) (omega arith);
      grew = omega arith;
      most_is = omega (arith, o.most_is);
      places = subst (Variables s) (sym e) o.places;
      are = ap (map (text_at s)) e ∙ o.are;
    }
