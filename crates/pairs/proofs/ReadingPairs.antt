-- Pairs of lines read into cells of an area: one pair, the walk over all of them, whose list is backwards, and that list turned round.
use Prim.Native.Nat.{ℕ, ◌+◌, ◌*◌, ◌-◌, ◌<◌, ◌≤◌}
use native.Mathlib.Omega.{arith}
use mathlib.Core.Path.{◌≡◌, refl, sym, ap, ap₂, ◌∙◌, subst}
use mathlib.Core.List.{List, [], ◌∷◌, ◌++◌, append_assoc}
use Rattle.std.specs.Prelude.{Option, Some, None}
use lib.ListN.{length}
use Rattle.rules.specs.Bytes.{Text}
use Rattle.rules.specs.Text.{bytes}
use Rattle.rules.specs.Maybe.{◌>>=◌}
use Rattle.rules.specs.Tree.{Tree, Trees, none, more, count}
use Rattle.rules.specs.Reading.{parse}
use Rattle.rules.specs.Substitution.{Pair, flatten}
use Rattle.rules.specs.Sheet.{Entry}
use Rattle.rules.specs.Answer.{read_pair, read_pairs}
use Rattle.tree.specs.declared.area.Area.{Area}
use Rattle.tree.specs.Areas.{tree_in, trees_in, Grows}
use Rattle.tree.specs.Spelled.{text_in}
use Rattle.tree.proofs.Keeping.{adds_grows, grows_same, grows_then, grows_tree, grows_trees}
use Rattle.tree.proofs.Lists.{list_none}
use Rattle.tree.proofs.Spelling.{text_lent}
use Rattle.tree.specs.Lists.{back, Lists}
use Rattle.reading.specs.Areas.{Reads, UnreadIn, texts_end_in}
use Rattle.reading.proofs.Keeping.{reads_grows, unread_grows, sheet_length}
use Rattle.sheet.specs.Lines.{lines_at}
use Rattle.sheet.specs.Pairs.{two_lines_at}
use Rattle.sheet.specs.declared.Read.{Read}
use Rattle.sheet.specs.declared.Sides.{Sides}
use Rattle.forms.specs.Form.{entry_of, Inside}
use Rattle.forms.proofs.Located.{pair_located}
use Rattle.pairs.specs.Pairs.{pair_end, PairsFrom}
use Rattle.pairs.specs.Areas.{ReadPairIn, ReversedIn, InOrder}
use Rattle.pairs.proofs.Ahead.{left_first, Ahead, ahead_none, ahead_turn, ahead_unread, none_later, ahead_end}

-- ---- one pair

pub left_unread : {a b : Area} (p : Sides) → UnreadIn a b p.left → (read_pair (entry_of a.sheet.now p.left p.right) ≡ None) × Grows a b
left_unread {a} p h = (left_first (entry_of a.sheet.now p.left p.right) None h.unread, unread_grows h)

module _ {a m : Area} (p : Sides) {left : ℕ} (one : Reads a m p.left left) where
  then_right : (o : Option Tree) → parse (text_in m p.right) ≡ o → read_pair (entry_of a.sheet.now p.left p.right) ≡ (o >>= λ t. Some (tree_in m left, t))
  then_right o h =
      left_first (entry_of a.sheet.now p.left p.right) (Some (tree_in m left)) one.reads
      ∙ ap (λ (o : Option Tree). o >>= λ t. Some (tree_in m left, t)) (ap parse (sym (text_lent p.right one.lent)) ∙ h)

  pub right_unread : {b : Area} → UnreadIn m b p.right → (read_pair (entry_of a.sheet.now p.left p.right) ≡ None) × Grows a b
  right_unread h = (then_right None h.unread, grows_then (reads_grows one) (unread_grows h))

  pub pair_there : {d b : Area} {right list i : ℕ} → list < a.free → Reads m d p.right right → Lists d b i (more (tree_in d right) (more (tree_in d left) (trees_in d list))) → b.free ≡ d.free + 2
      → ReadPairIn a b p list i
  pair_there {d} {b} {right} {list} q two l e =
      let g = grows_then (reads_grows one) (reads_grows two) in
      record {
        pair = (tree_in m left, tree_in d right);
        read = then_right (Some (tree_in d right)) two.reads;
        grows = grows_then g (adds_grows l.adds);
        inside = l.inside;
        trees =
            l.trees
            ∙ ap₂ (λ (t : Tree) (ts : Trees). more (tree_in d right) (more t ts)) (grows_tree (reads_grows two) left one.placed.1 one.placed.0) (grows_trees g list q);
        used = omega (arith, one.room, two.room, e);
      }

-- ---- the walk over all pairs of a, from `at` on: b holds those up to c, backwards

pub record ReadingIn (a : Area) (at : ℕ) (b : Area) (c list : ℕ) : Type 0 where
  pub ps : List Pair
  pub ahead : (es : List Entry) (rest : List Text) → PairsFrom a.sheet.now at es rest → Ahead a.sheet.now c es rest ps
  pub grows : Grows a b
  pub inside : list < b.free
  pub trees : (qs : List Pair) → back (trees_in b list) (flatten qs) ≡ flatten (ps ++ qs)
  pub used : b.free + count (trees_in b list) ≤ a.free + 2 * (c - at)
  pub onward : at ≤ c
  pub within : c ≤ length b.sheet.now

pub reading_starts : (a : Area) (at : ℕ) → at ≤ length a.sheet.now → ReadingIn a at a at 0
unfolding back
reading_starts a at q = record {
  ps = [];
  ahead = ahead_none a.sheet.now at;
  grows = grows_same a;
  inside = a.arena.links.some;
  trees = λ qs. ap (λ (ts : Trees). back ts (flatten qs)) (list_none a 0 refl);
  used = omega (arith, ap count (list_none a 0 refl));
  onward = omega arith;
  within = q;
}

module _ {a b : Area} {at c list : ℕ} (h : ReadingIn a at b c list) where
  pub reading_ends : None ≡ two_lines_at (bytes "left=") (bytes "right=") b.sheet.now c → ReversedIn a b at record { value = list; next = record { at = c } }
  unfolding flatten
  reading_ends e =
      let f = subst (λ s. None ≡ two_lines_at (bytes "left=") (bytes "right=") s.now c) h.grows.lent.sheet e in
      record {
        ps = h.ps ++ [];
        read = λ es rest k. ahead_end (h.ahead es rest k) f;
        lines = λ es rest k. subst (λ s. lines_at s.now c ≡ Some rest) (sym h.grows.lent.sheet) (none_later (h.ahead es rest k) f).1;
        grows = h.grows;
        onward = h.onward;
        within = h.within;
        inside = h.inside;
        trees = h.trees [];
        used = h.used;
      }

  module _ (two : Read Sides) (e : Some two ≡ two_lines_at (bytes "left=") (bytes "right=") b.sheet.now c) where
    here : Some two ≡ two_lines_at (bytes "left=") (bytes "right=") a.sheet.now c
    here = subst (λ s. Some two ≡ two_lines_at (bytes "left=") (bytes "right=") s.now c) h.grows.lent.sheet e

    pub reading_inside : Inside b.sheet.now two.value.left × Inside b.sheet.now two.value.right × (list < b.free)
    reading_inside = let x = pair_located b.sheet.now c two e in (x.left, x.right, h.inside)

    pub reading_room : pair_end b.free two.value.left two.value.right ≤ texts_end_in a at
    reading_room = let x = pair_located b.sheet.now c two e in omega (arith, h.used, h.onward, x.next, x.within, sheet_length h.grows.lent)

    pub reading_unread : {d : Area} → (read_pair (entry_of b.sheet.now two.value.left two.value.right) ≡ None) × Grows b d
        → ((es : List Entry) (rest : List Text) → PairsFrom a.sheet.now at es rest → read_pairs es ≡ None) × Grows a d
    reading_unread x =
        let u = subst (λ s. read_pair (entry_of s.now two.value.left two.value.right) ≡ None) h.grows.lent.sheet x.0 in
        ((λ es rest k. ahead_unread (h.ahead es rest k) two here u), grows_then h.grows x.1)

    pub reading_turn : {d : Area} {i : ℕ} → ReadPairIn b d two.value list i → ReadingIn a at d two.next.at i
    unfolding flatten back
    reading_turn {d} {i} x =
        let y = pair_located b.sheet.now c two e in
        let r = subst (λ s. read_pair (entry_of s.now two.value.left two.value.right) ≡ Some x.pair) h.grows.lent.sheet x.read in
        record {
          ps = h.ps ++ (x.pair ∷ []);
          ahead = λ es rest k. ahead_turn (h.ahead es rest k) two x.pair here r;
          grows = grows_then h.grows x.grows;
          inside = x.inside;
          trees = λ qs.
              ap (λ (ts : Trees). back ts (flatten qs)) x.trees ∙ h.trees (x.pair ∷ qs) ∙ ap flatten (sym (append_assoc h.ps (x.pair ∷ []) qs));
          used = omega (arith, x.used, h.used, h.onward, y.next, ap count x.trees);
          onward = omega (arith, h.onward, y.next);
          within = omega (arith, y.within, sheet_length x.grows.lent);
        }

-- ---- all pairs

pub pairs_there : {a b d : Area} {at i : ℕ} {r : Read ℕ} → ReversedIn a b at r → Lists b d i (back (trees_in b r.value) none) → d.free ≡ b.free + count (trees_in b r.value)
    → (es : List Entry) (rest : List Text) → PairsFrom a.sheet.now at es rest → InOrder a d at es rest record { value = i; next = r.next }
pairs_there {r = r} h l e es rest f = record {
  ps = h.ps;
  read = h.read es rest f;
  lines = subst (λ s. lines_at s.now r.next.at ≡ Some rest) (sym l.adds.lent.sheet) (h.lines es rest f);
  grows = grows_then h.grows (adds_grows l.adds);
  onward = h.onward;
  within = omega (arith, h.within, sheet_length l.adds.lent);
  inside = l.inside;
  trees = l.trees ∙ h.trees;
  used = omega (arith, h.used, e);
}
