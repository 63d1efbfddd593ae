-- The steps of the writer of words: words one after the other, the open brackets, the name of sums.
use Prim.Native.Nat.{ℕ, zero, suc, ◌+◌, ◌-◌, ◌<◌, ◌≤◌}
use mathlib.Core.Path.{◌≡◌, refl, sym, ap, ap₂, ◌∙◌}
use mathlib.Core.List.{List, ◌∷◌, ◌++◌}
use lib.ListN.{length, get_or, take, drop, set, length-append}
use lib.Seq.{slice, get_or-set_same, get_or-set_other}
use native.Mathlib.Omega.{arith}
use native.Mathlib.Numerals.{add-one}
use Rattle.rules.specs.Bytes.{Text, same}
use Rattle.sheet.specs.declared.Place.{Place}
use Rattle.sheet.specs.Places.{word_of}
use Rattle.rules.specs.Tree.{tamtplus}
use Rattle.text.specs.Frames.{Wrote}
use Rattle.text.proofs.Slices.{slice_same, slice_join}
use Rattle.text.proofs.Frames.{outside_same, outside_then, outside_set}
use Rattle.flattening.specs.Items.{adds, opening, bracket_at, closing, last_open}
use Rattle.flattening.specs.declared.brackets.Bracket.{Bracket}
use Rattle.flattening.specs.declared.brackets.Bracket.TheVariants.{Plain, Sum, Inner}
use Rattle.flattening.specs.Writers.{Appended, open_brackets, open_in, Opens, Closes}
use Rattle.flattening.specs.declared.brackets.Stack.{Stack}
use Rattle.flattening.specs.declared.writer.Writer.{Writer}
use Rattle.flattening.proofs.ItemTokens.{place_text}

-- ---- words written

pub opening_short : (b : Bracket) (x : ℕ) → length (opening b x) ≤ 2
opening_short Plain x = omega arith
opening_short Sum x = omega arith
opening_short Inner x = omega arith

pub closing_short : (b : Bracket) → length (closing b) ≤ 1
closing_short Plain = omega arith
closing_short Sum = omega arith
closing_short Inner = omega arith

-- ---- one after the other

pub wrote_append : {w v u l m : List ℕ} {to at : ℕ} → Wrote w v to l → Wrote v u at m → at ≡ to + length l → at + length m ≤ length w → Wrote w u to (l ++ m)
wrote_append {w} {v} {u} {l} {m} {to} {at} g h e room =
    let n = length-append l m in
    let a = g.outside.len in
    let b = h.outside.len in
    let z : slice to at u ≡ l = slice_same to at u v (omega arith) (omega arith) (λ p x y. h.outside.below p y) ∙ ap (λ (t : ℕ). slice to t v) e ∙ g.words in
    let f : to + length (l ++ m) ≡ at + length m = omega arith in
    record {
      outside = outside_then (omega arith) (omega arith) (omega arith) g.outside h.outside;
      words = ap (λ (t : ℕ). slice to t u) f ∙ sym (slice_join to at (at + length m) u (omega arith) (omega arith) (omega arith)) ∙ ap₂ (λ (x y : List ℕ). x ++ y) z h.words;
    }

pub appended_more : {a b c : Writer} {l m : List ℕ} → Appended a b l → Appended b c m → b.end + length m ≤ length a.words.now → Appended a c (l ++ m)
appended_more {a} {b} {c} {l} {m} g h room =
    let e = g.end in
    let f = h.end in
    record { lent = h.lent ∙ g.lent; wrote = wrote_append g.wrote h.wrote e room; end = omega (arith, length-append l m) }

-- ---- brackets

pub brackets_kept : (w v : List ℕ) (depth : ℕ) → ((p : ℕ) → p < depth → get_or v p 0 ≡ get_or w p 0) → open_brackets v depth ≡ open_brackets w depth
unfolding open_brackets
brackets_kept w v zero h = refl
brackets_kept w v (suc d) h = ap₂ (λ (c : ℕ) (cs : List Bracket). bracket_at c ∷ cs) (h d (omega arith)) (brackets_kept w v d (λ p q. h p (omega arith)))

pub last_none : (k : Stack) → k.depth ≡ 0 → Plain ≡ last_open (open_in k)
unfolding open_brackets
last_none k e = rw e refl

pub popped : (w : List ℕ) (depth : ℕ) → (depth ≡ 0 → ⊥) → open_brackets w depth ≡ bracket_at (get_or w (depth - 1) 0) ∷ open_brackets w (depth - 1)
unfolding open_brackets
popped w zero h = absurd (h refl)
popped w (suc d) h = let e : suc d - 1 ≡ d = omega arith in rw e

pub last_some : (k : Stack) → (k.depth ≡ 0 → ⊥) → bracket_at (get_or k.words.now (k.depth - 1) 0) ≡ last_open (open_in k)
last_some k h = sym (ap last_open (popped k.words.now k.depth h))

-- k with one bracket more, whose number is n, is m
pub pushed : (k m : Stack) (n : ℕ) (c : Bracket) → k.depth < length k.words.now → m.words.ghost_name ≡ k.words.ghost_name → m.words.now ≡ set k.words.now k.depth n → m.depth ≡ k.depth + 1 → bracket_at n ≡ c → Opens k m c
unfolding open_brackets
pushed k m n c room l e d f =
    let w = k.words.now in
    let x = set w k.depth n in
    record {
      lent = l;
      outside = rw e (outside_set k.depth n (omega arith) (omega arith) (outside_same w k.depth (k.depth + 1)));
      deeper = d;
      held = ap₂ open_brackets e (d ∙ add-one k.depth)
          ∙ ap₂ (λ (c : Bracket) (cs : List Bracket). c ∷ cs) (ap bracket_at (get_or-set_same w k.depth n 0 room) ∙ f) (brackets_kept w x k.depth (λ p q. get_or-set_other w k.depth p n 0 (λ z. omega arith)));
    }

-- without its last one
pub pops : (k m : Stack) → 0 < k.depth → m.words ≡ k.words → m.depth ≡ k.depth - 1 → Closes k m (bracket_at (get_or k.words.now (k.depth - 1) 0))
pops k m h e d = record {
  words = e;
  higher = omega arith;
  held = popped k.words.now k.depth (λ z. omega arith) ∙ ap₂ (λ (w : List ℕ) (n : ℕ). bracket_at (get_or k.words.now (k.depth - 1) 0) ∷ open_brackets w n) (sym (ap (λ x. x.now) e)) (sym d);
}

-- ---- names

pub adds_is : (s : Text) (p : Place) → p.from < p.to → p.to < 65536 → same (take (p.to - p.from) (drop p.from s)) tamtplus ≡ adds s (word_of p)
unfolding adds
adds_is s p a b = sym (ap (λ (n : Text). same n tamtplus) (place_text s p a b))
