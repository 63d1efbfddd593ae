-- The canonical texts of cells, written one after another, and compared.
use Prim.Native.Nat.{ℕ, ◌+◌, ◌*◌, ◌<◌, ◌≤◌}
use mathlib.Core.Path.{◌≡◌, refl, sym, ap, ap₂, subst, ◌∙◌}
use mathlib.Core.Bool.{Bool, false}
use mathlib.Core.List.{List}
use lib.ListN.{length, get_or, set, drop, length-set, length-drop}
use lib.Seq.{slice, drop-cons, get_or-set_same, get_or-set_other}
use native.Mathlib.Omega.{arith}
use native.Mathlib.Decide.{dec_lt}
use native.Mathlib.Numerals.{add-one}
use Rattle.rules.specs.Bytes.{same}
use Rattle.rules.specs.Tree.{Tree, size}
use Rattle.rules.specs.Sums.{canonical, equivalent}
use Rattle.laws.proofs.Basics.Tests.{differ_of_ne}
use Rattle.text.proofs.Slices.{slice_same}
use Rattle.tree.specs.declared.area.Area.{Area}
use Rattle.tree.specs.Areas.{tree_in}
use Rattle.tree.proofs.Decoding.{size_pos}
use Rattle.runs.specs.Texts.{texts}
use Rattle.fingerprints.specs.Fingerprints.{fingerprint}
use Rattle.sums.specs.Sums.{heft}
use Rattle.sums.specs.Summands.{heft_in, TextFits, TextIs, TextsIn, nth_text}
use Rattle.equivalence.specs.Words.{Canon}
use Rattle.sums.proofs.Describing.{heft_count}

-- the words of v from base to r have the canonical text of t, and the word at k is its fingerprint
pub record Marked (s w v : List ℕ) (t : Tree) (base r k : ℕ) : Type 0 where
  pub area : List ℕ
  pub canon : Canon s w area t base r
  pub is : v ≡ set area k (fingerprint (canonical t))

-- text p is written: the first n words are for fingerprints, and its words end at most at lim
pub record Written (s v y : List ℕ) (n p lim : ℕ) (t : Tree) : Type 0 where
  pub since : n ≤ get_or v p 0
  pub upto : get_or v (p + 1) 0 ≤ lim
  pub readable : TextFits s v y p
  pub told : TextIs s v y p t

-- at the head of the loop: p texts are written, their words end at `end`
pub record Describing (a : Area) (cs w x v y : List ℕ) (p end : ℕ) : Type 0 where
  pub high : p ≤ length cs
  pub starts_len : length v ≡ length w
  pub words_len : length y ≡ length x
  pub start : get_or v p 0 ≡ end
  pub since : length cs ≤ end
  pub many : p + heft_in a (drop p cs) ≤ heft_in a cs
  pub short : end + p + 5 * heft_in a (drop p cs) ≤ length cs + 5 * heft_in a cs
  pub written : (q : ℕ) → q < p → Written a.sheet.now v y (length cs) q end (tree_in a (get_or cs q 0))

module _ (a : Area) (cs w x : List ℕ) (room : (length cs < length w) × (15 * heft_in a cs < length x)) where
  pub describing_starts : Describing a cs w x (set w 0 (length cs)) x 0 (length cs)
  describing_starts = record {
    high = omega arith;
    starts_len = length-set w 0 (length cs);
    words_len = refl;
    start = get_or-set_same w 0 (length cs) 0 (omega arith);
    since = omega arith;
    many = omega arith;
    short = omega arith;
    written = λ q l. absurd (omega arith);
  }

module _ {a : Area} {cs w x v y : List ℕ} {p end : ℕ} (h : Describing a cs w x v y p end) where
  pub described : length cs ≤ p → TextsIn a cs 0 v y
  described e q l k =
      let d = h.written q (omega arith) in
      let z : q ≡ 0 + q = omega arith in
      subst (λ (i : ℕ). TextFits a.sheet.now v y i × TextIs a.sheet.now v y i (tree_in a (get_or cs q 0))) z (d.readable, d.told)

  module _ (few : p < length cs) where
    abbrev t : Tree
    t = tree_in a (get_or cs p 0)

    heft_next : heft_in a (drop p cs) ≡ size (tree_in a (get_or cs p 0)) + heft_in a (drop (p + 1) cs)
    unfolding heft
    heft_next = rw (add-one p, drop-cons cs p 0 few) refl

    rest_count : length cs ≤ p + 1 + heft_in a (drop (p + 1) cs)
    rest_count = omega (arith, heft_count a.sheet.now a.work.now (drop (p + 1) cs), length-drop (p + 1) cs)

    module _ (room : (length cs < length w) × (15 * heft_in a cs < length x)) (small : 5 * heft_in a cs < 65536) where
      pub text_room : (5 * size (tree_in a (get_or cs p 0)) < 65536) × (p < end) × (end + 15 * size (tree_in a (get_or cs p 0)) ≤ length y)
      text_room =
          let e = heft_next in
          let r = rest_count in
          let m = h.many in
          let k = h.short in
          let b = h.since in
          let l = h.words_len in
          (omega arith, omega arith, omega arith)

      module _ {z : List ℕ} {r : ℕ} (g : Marked a.sheet.now y z (tree_in a (get_or cs p 0)) end r p) where
        other : (i : ℕ) → (i ≡ p → ⊥) → get_or z i 0 ≡ get_or g.area i 0
        other i n = ap (λ (l : List ℕ). get_or l i 0) g.is ∙ get_or-set_other g.area p i (fingerprint (canonical t)) 0 (λ e. n (omega arith))

        marked : get_or z p 0 ≡ fingerprint (canonical t)
        marked = ap (λ (l : List ℕ). get_or l p 0) g.is ∙ get_or-set_same g.area p (fingerprint (canonical t)) 0 (omega (arith, text_room, g.canon.kept.len))

        words_long : length z ≡ length y
        words_long = ap length g.is ∙ length-set g.area p (fingerprint (canonical t)) ∙ g.canon.kept.len

        pub end_small : (r < 4294967296) × (p + 1 < length v)
        end_small =
            let e = heft_next in
            let k = h.short in
            let f = g.canon.room in
            let c = heft_count a.sheet.now a.work.now cs in
            let l = h.starts_len in
            (omega arith, omega arith)

        abbrev u : List ℕ
        u = set v (p + 1) r

        start_next : get_or u (p + 1) 0 ≡ r
        start_next = get_or-set_same v (p + 1) r 0 end_small.1

        start_other : (i : ℕ) → i ≤ p → get_or u i 0 ≡ get_or v i 0
        start_other i l = get_or-set_other v (p + 1) i r 0 (λ e. omega arith)

        before : (i : ℕ) → length cs ≤ i → i < end → get_or z i 0 ≡ get_or y i 0
        before i l m = other i (λ e. omega arith) ∙ g.canon.kept.below i m

        earlier : (q : ℕ) → q < p → Written a.sheet.now u z (length cs) q r (tree_in a (get_or cs q 0))
        earlier q l =
            let d = h.written q l in
            let e₁ = start_other q (omega arith) in
            let e₂ = start_other (q + 1) (omega arith) in
            let c = g.canon.low in
            let n = d.upto in
            let o = d.since in
            let i = words_long in
            let high = d.readable.high in
            let same : slice (get_or v q 0) (get_or v (q + 1) 0) z ≡ slice (get_or v q 0) (get_or v (q + 1) 0) y =
            slice_same (get_or v q 0) (get_or v (q + 1) 0) z y (omega arith) (omega arith) (λ j k m. before j (omega arith) (omega arith)) in
            record {
              since = omega arith;
              upto = omega arith;
              readable = record {
                started = (let k = length-set v (p + 1) r in let m = d.readable.started in omega arith);
                marked = (let m = d.readable.marked in omega arith);
                low = (let m = d.readable.low in omega arith);
                high = omega arith;
                tokens = rw (e₁, e₂) (λ j k m. rw (before j (omega arith) (omega arith)) (d.readable.tokens j k m));
              };
              told = record {
                text = rw (e₁, e₂) (ap (texts a.sheet.now) same ∙ d.told.text);
                mark = other q (λ e. omega arith) ∙ g.canon.kept.below q (let b = h.since in omega arith) ∙ d.told.mark;
              };
            }

        latest : Written a.sheet.now u z (length cs) p r (tree_in a (get_or cs p 0))
        latest =
            let e₁ = start_other p (omega arith) ∙ h.start in
            let e₂ = start_next in
            let c = g.canon.low in
            let b = h.since in
            let f = g.canon.room in
            let i = words_long in
            let o = text_room in
            let same : slice end r z ≡ slice end r g.area = slice_same end r z g.area (omega arith) (let k = g.canon.kept.len in omega arith) (λ j k m. other j (λ e. omega arith)) in
            record {
              since = omega arith;
              upto = omega arith;
              readable = record {
                started = (let k = length-set v (p + 1) r in let m = h.starts_len in omega arith);
                marked = omega arith;
                low = omega arith;
                high = omega arith;
                tokens = rw (e₁, e₂) (λ j k m. rw (other j (λ e. omega arith)) (g.canon.tokens j k m));
              };
              told = record { text = rw (e₁, e₂) (ap (texts a.sheet.now) same ∙ g.canon.text); mark = marked };
            }

        pub describing_next : Describing a cs w x (set v (p + 1) r) z (p + 1) r
        describing_next =
            let e = heft_next in
            let m = h.many in
            let k = h.short in
            let f = g.canon.room in
            let c = g.canon.low in
            let b = h.since in
            let s = size_pos (tree_in a (get_or cs p 0)) in
            record {
              high = omega arith;
              starts_len = length-set v (p + 1) r ∙ h.starts_len;
              words_len = words_long ∙ h.words_len;
              start = start_next;
              since = omega arith;
              many = omega arith;
              short = omega arith;
              written = λ q l. elim (dec_lt q p) [
                | yes i ↦ earlier q i
                | no i ↦ (let z₁ : p ≡ q = omega arith in subst (λ (q : ℕ). Written a.sheet.now u z (length cs) q r (tree_in a (get_or cs q 0))) z₁ latest)
              ];
            }

-- the first texts
pub first_text : {s y : List ℕ} (a : Area) (cs : List ℕ) (p : ℕ) → TextsIn a cs 0 s y → p < length cs → 0 < get_or cs p 0 → TextFits a.sheet.now s y p × TextIs a.sheet.now s y p (tree_in a (get_or cs p 0))
first_text {s} {y} a cs p h l k = let z : 0 + p ≡ p = omega arith in subst (λ (i : ℕ). TextFits a.sheet.now s y i × TextIs a.sheet.now s y i (tree_in a (get_or cs p 0))) z (h p l k)

-- whether two texts are one is whether their trees are equal
pub one_told : {s v y : List ℕ} {p q : ℕ} {t u : Tree} {r : Bool} → TextIs s v y p t → TextIs s v y q u → r ≡ same (nth_text s v y p) (nth_text s v y q) → r ≡ equivalent t u
unfolding equivalent
one_told h k e = e ∙ ap₂ same h.text k.text

-- texts with two fingerprints are of trees that differ
pub texts_differ : {s v y : List ℕ} {p q : ℕ} {t u : Tree} → TextIs s v y p t → TextIs s v y q u → (get_or y q 0 ≡ get_or y p 0 → ⊥) → equivalent t u ≡ false
unfolding equivalent
texts_differ h k n = differ_of_ne (λ e. n (k.mark ∙ sym (h.mark ∙ ap fingerprint e)))
