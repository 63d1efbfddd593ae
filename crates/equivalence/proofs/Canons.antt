-- The words of a tree, once its sums are sorted, have its canonical text.
use Prim.Native.Nat.{ℕ, ◌+◌, ◌-◌, ◌*◌, ◌<◌, ◌≤◌}
use mathlib.Core.Path.{◌≡◌, sym, ap, ap₂, ◌∙◌}
use mathlib.Core.Bool.{false}
use mathlib.Core.List.{List, ◌++◌}
use lib.ListN.{length, get_or, drop, length-append}
use lib.Seq.{slice, get_or-drop}
use native.Mathlib.Omega.{arith}
use Rattle.std.proofs.lemmas.List.{get_or_append_left, get_or-append_right}
use Rattle.std.proofs.Math.Seq.{drop-append_seam, take-append_seam}
use Rattle.rules.specs.Tree.{Tree, size}
use Rattle.runs.specs.Texts.{texts, Token, Tokens}
use Rattle.runs.specs.declared.TheConstants.{PLUS}
use Rattle.settling.specs.Orders.{sums_ordered}
use Rattle.flattening.specs.Terms.{words}
use Rattle.flattening.specs.Spelling.{flatten}
use Rattle.flattening.specs.declared.writer.Writer.{Writer}
use Rattle.runs.proofs.Each.{each_at}
use Rattle.settling.proofs.NameWords.{spelled_tokens, spelled_ordered}
use Rattle.equivalence.specs.Words.{TermWritten, Canon}

-- the words between others
between : (p a r : List ℕ) (base : ℕ) → length p ≡ base → slice base (base + length a) ((p ++ a) ++ r) ≡ a
between p a r base e =
    let z : length p + length a ≡ length (p ++ a) = sym (length-append p a) in
    rw (← e, z, take-append_seam (p ++ a) r) (drop-append_seam p a)

word_between : (p a r : List ℕ) (base q : ℕ) → length p ≡ base → base ≤ q → q < base + length a → get_or ((p ++ a) ++ r) q 0 ≡ get_or a (q - base) 0
word_between p a r base q e l h =
    let n = length-append p a in
    get_or_append_left (p ++ a) r 0 q (omega arith) ∙ get_or-append_right p a base q 0 e l

-- the words of a term that spells t are a, between p and r
module _ {s : List ℕ} {t : Tree} {x y : Writer} (g : TermWritten s false t x y) (small : 5 * size t < 65536) (p a r : List ℕ) (whole : y.words.now ≡ (p ++ a) ++ r) (front : length p ≡ x.end) (both : length (p ++ a) ≡ y.end) where
  count : length a ≡ length (words (flatten s g.term))
  count = omega (arith, length-append p a, g.words.end)

  written : a ≡ words (flatten s g.term)
  written = sym (between p a r x.end front) ∙ ap₂ (λ (n : ℕ) (w : List ℕ). slice x.end (x.end + n) w) count (sym whole) ∙ g.words.wrote.words

  pub settle_tokens : Tokens s a 0 (length a)
  settle_tokens q i j = rw written (each_at (Token s) q (spelled_tokens s g.spells) (omega (arith, count)))

  pub canon_of : (room : x.end + 15 * size t ≤ length x.words.now) (b k : List ℕ) {u : List ℕ} → u ≡ (p ++ b) ++ k → b ≡ sums_ordered s PLUS (length a) a → length b ≡ length a → Tokens s b 0 (length b) → length k ≡ length r → drop (2 * length a) k ≡ drop (2 * length a) r
      → Canon s x.words.now u t x.end y.end
  canon_of room b k now sorted lb tb lk rest =
      let c = count in
      let e = g.words.end in
      let f = g.short in
      let m = length-append p a in
      let n = length-append p b in
      let o = length-append (p ++ a) r in
      let i = length-append (p ++ b) k in
      let lw : length y.words.now ≡ length ((p ++ a) ++ r) = ap length whole in
      let lx = g.words.wrote.outside.len in
      let z : y.end ≡ x.end + length b = omega arith in
      rw now (record {
        kept = record {
          len = omega arith;
          below = λ q h. get_or_append_left (p ++ b) k 0 q (omega arith) ∙ get_or_append_left p b 0 q (omega arith)
              ∙ sym (get_or_append_left (p ++ a) r 0 q (omega arith) ∙ get_or_append_left p a 0 q (omega arith))
              ∙ ap (λ (w : List ℕ). get_or w q 0) (sym whole) ∙ g.words.wrote.outside.below q h;
          above = λ q h. (
              let v : 2 * length a + (q - y.end - 2 * length a) ≡ q - y.end = omega arith in
              get_or-append_right (p ++ b) k y.end q 0 (omega arith) (omega arith)
              ∙ ap (λ (i : ℕ). get_or k i 0) (sym v) ∙ sym (get_or-drop (2 * length a) k (q - y.end - 2 * length a) 0)
              ∙ ap (λ (w : List ℕ). get_or w (q - y.end - 2 * length a) 0) rest
              ∙ get_or-drop (2 * length a) r (q - y.end - 2 * length a) 0 ∙ ap (λ (i : ℕ). get_or r i 0) v
              ∙ sym (get_or-append_right (p ++ a) r y.end q 0 both (omega arith))
              ∙ ap (λ (w : List ℕ). get_or w q 0) (sym whole) ∙ g.words.wrote.outside.above q (omega arith));
        };
        low = omega arith;
        room = omega arith;
        text = ap (texts s) (ap (λ (n : ℕ). slice x.end n ((p ++ b) ++ k)) z ∙ between p b k x.end front ∙ sorted)
            ∙ ap (λ (l : List ℕ). texts s (sums_ordered s PLUS (length l) l)) written ∙ spelled_ordered s g.spells (omega arith);
        tokens = λ q h j. rw (word_between p b k x.end q front h (omega arith)) (tb (q - x.end) (omega arith) (omega arith));
      })
