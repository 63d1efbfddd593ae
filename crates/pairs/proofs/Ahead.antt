-- Pairs of lines as the definitions read them: one pair, the pairs after some that were read.
use Prim.Native.Nat.{ℕ}
use mathlib.Core.Path.{◌≡◌, refl, sym, ap, ◌∙◌}
use mathlib.Core.List.{List, [], ◌∷◌, ◌++◌, append_assoc, map}
use Rattle.std.specs.Prelude.{Option, Some, None}
use Rattle.rules.specs.Bytes.{Text}
use Rattle.rules.specs.Text.{bytes}
use Rattle.rules.specs.Maybe.{◌>>=◌, every}
use Rattle.rules.specs.Tree.{Tree}
use Rattle.rules.specs.Reading.{parse}
use Rattle.rules.specs.Substitution.{Pair}
use Rattle.rules.specs.Sheet.{Entry}
use Rattle.rules.specs.Answer.{read_pair, read_pairs}
use Rattle.sheet.specs.Lines.{lines_at}
use Rattle.sheet.specs.Pairs.{two_lines_at}
use Rattle.sheet.specs.declared.Read.{Read}
use Rattle.sheet.specs.declared.Sides.{Sides}
use Rattle.forms.proofs.WalkLaws.{pairs_by, two_there, two_end}
use Rattle.forms.specs.Form.{entry_of}
use Rattle.pairs.specs.Pairs.{PairsFrom}

-- a pair, by what its left side reads as
pub left_first : (e : Entry) (o : Option Tree) → parse e.0 ≡ o → read_pair e ≡ (o >>= λ l. parse e.1 >>= λ r. Some (l, r))
unfolding read_pair
left_first e o h = ap (λ (o : Option Tree). o >>= λ l. parse e.1 >>= λ r. Some (l, r)) h

-- ---- the pairs after some that were read

-- some pairs, by what the first reads as
read_first : (e : Entry) (es : List Entry) (o : Option Pair) → read_pair e ≡ o → read_pairs (e ∷ es) ≡ (o >>= λ p. read_pairs es >>= λ qs. Some (p ∷ qs))
unfolding read_pairs
read_first e es o h = ap (λ (o : Option Pair). o >>= λ p. every (map read_pair es) >>= λ qs. Some (p ∷ qs)) h

-- the pairs es, before the lines rest, read as ps, and after them those from c on
pub record Ahead (s : Text) (c : ℕ) (es : List Entry) (rest : List Text) (ps : List Pair) : Type 0 where
  pub later : List Entry
  pub from : PairsFrom s c later rest
  pub read : read_pairs es ≡ (read_pairs later >>= λ qs. Some (ps ++ qs))

module _ {s : Text} {c : ℕ} {es : List Entry} {rest : List Text} {ps : List Pair} (h : Ahead s c es rest ps) where
  ahead_next : (two : Read Sides) → Some two ≡ two_lines_at (bytes "left=") (bytes "right=") s c
      → (fs : List Entry) × (h.later ≡ entry_of s two.value.left two.value.right ∷ fs) × PairsFrom s two.next.at fs rest
  ahead_next two e =
      let (fs, d, g) = two_there (bytes "left=") (bytes "right=") s c h.later rest (sym (pairs_by s c) ∙ h.from) two e in
      (fs, d, pairs_by s two.next.at ∙ g)

  ahead_read : (fs : List Entry) → h.later ≡ fs → read_pairs es ≡ (read_pairs fs >>= λ qs. Some (ps ++ qs))
  ahead_read fs d = h.read ∙ ap (λ (fs : List Entry). read_pairs fs >>= λ qs. Some (ps ++ qs)) d

  pub ahead_turn : (two : Read Sides) (p : Pair) → Some two ≡ two_lines_at (bytes "left=") (bytes "right=") s c → read_pair (entry_of s two.value.left two.value.right) ≡ Some p → Ahead s two.next.at es rest (ps ++ (p ∷ []))
  ahead_turn two p e g =
      let (fs, d, k) = ahead_next two e in
      record {
        later = fs;
        from = k;
        read =
            ahead_read (entry_of s two.value.left two.value.right ∷ fs) d ∙ ap (λ (o : Option (List Pair)). o >>= λ qs. Some (ps ++ qs)) (read_first (entry_of s two.value.left two.value.right) fs (Some p) g) ∙ go (read_pairs fs);
      }
    where
      go : (o : Option (List Pair)) → ((o >>= λ qs. Some (p ∷ qs)) >>= λ qs. Some (ps ++ qs)) ≡ (o >>= λ qs. Some ((ps ++ (p ∷ [])) ++ qs))
      go None = refl
      go (Some qs) = ap Some (sym (append_assoc ps (p ∷ []) qs))

  pub ahead_unread : (two : Read Sides) → Some two ≡ two_lines_at (bytes "left=") (bytes "right=") s c → read_pair (entry_of s two.value.left two.value.right) ≡ None → read_pairs es ≡ None
  ahead_unread two e g =
      let (fs, d, k) = ahead_next two e in
      ahead_read (entry_of s two.value.left two.value.right ∷ fs) d ∙ ap (λ (o : Option (List Pair)). o >>= λ qs. Some (ps ++ qs)) (read_first (entry_of s two.value.left two.value.right) fs None g)

  module _ (e : None ≡ two_lines_at (bytes "left=") (bytes "right=") s c) where
    pub none_later : (h.later ≡ []) × (lines_at s c ≡ Some rest)
    none_later = two_end (bytes "left=") (bytes "right=") s c h.later rest (sym (pairs_by s c) ∙ h.from) e

    pub ahead_end : read_pairs es ≡ Some (ps ++ [])
    unfolding read_pairs
    ahead_end = ahead_read [] none_later.0

-- nothing was read yet
pub ahead_none : (s : Text) (at : ℕ) (es : List Entry) (rest : List Text) → PairsFrom s at es rest → Ahead s at es rest []
ahead_none s at es rest f = record { later = es; from = f; read = go (read_pairs es) }
  where
    go : (o : Option (List Pair)) → o ≡ (o >>= λ qs. Some ([] ++ qs))
    go None = refl
    go (Some qs) = refl
