-- A sum of trees of an area that stand last first: the loop's invariant and its turns.
use Prim.Native.Nat.{ℕ, ◌+◌, ◌*◌, ◌<◌, ◌≤◌}
use native.Mathlib.Omega.{arith}
use mathlib.Core.Path.{◌≡◌, refl, sym, ap, ap₂, ◌∙◌}
use mathlib.Core.Logic.{◌⊎◌, inr, ⊎_elim}
use Rattle.std.specs.Prelude.{Some, None}
use Rattle.laws.proofs.Basics.Somes.{some_injective}
use Rattle.rules.specs.Tree.{Tree, Trees, apply, none, more, size, sizes, count, tamtplus, plus}
use Rattle.rules.specs.Reading.{sum_of}
use Rattle.sheet.specs.declared.Place.{Place}
use Rattle.tree.specs.declared.area.Area.{Area}
use Rattle.tree.specs.Areas.{count_in, next_in, tree_in, trees_in, Lent, Adds, Pushes, CellIn, HasRoom}
use Rattle.tree.specs.Spelled.{text_in}
use Rattle.text.proofs.Frames.{outside_within}
use Rattle.tree.proofs.Keeping.{lent_then, adds_grows, adds_then, adds_push, grows_length, grows_next, grows_tree, grows_trees, pushed_some, pushed_inside, pushed_tree, pushed_trees}
use Rattle.tree.proofs.Lists.{list_none, list_more, list_count, count_size}
use Rattle.tree.proofs.Rooms.{room_after}
use Rattle.tree.proofs.Spelling.{text_lent}
use Rattle.closing.specs.Machine.{back}
use Rattle.closing.specs.Closing.{summed}
use Rattle.closing.specs.Areas.{room_for, Shuts, ClosesIn, NestsIn}
use Rattle.closing.proofs.Shuts.{closes_not}
use Rattle.closing.proofs.SumTrees.{summed_size, sum_is, no_sum, no_second}

-- the only tree of a cell's list
pub only_tree : (a : Area) (k : ℕ) {t : Tree} → 0 < k → k < a.free → trees_in a k ≡ more t none → tree_in a k ≡ t
only_tree a k p q e = let z = sym (list_more a k p q refl) ∙ e in cc

-- A sum so far is the only tree of the list at a cell; k is the chain of the summands in front of it. a is the area now, a₀ as it was.
pub record Summing (a₀ : Area) (tail chain : ℕ) (a : Area) (last k : ℕ) : Type 0 where
  pub adds : Adds a₀ a
  pub at : k < a₀.free
  pub some_cell : 0 < last
  pub inside : last < a.free
  pub tree : Tree
  pub trees : trees_in a last ≡ more tree none
  pub sum : summed tree (trees_in a₀ k) ≡ summed (tree_in a₀ tail) (trees_in a₀ chain)
  pub small : (0 < k) ⊎ (size tree ≤ 4096)
  pub pushed : (0 < k) ⊎ ((a₀.free ≤ last) × (last + 1 ≡ a.free))
  pub room : a.free + 2 * count (trees_in a₀ k) ≤ a₀.free + 2 * count (trees_in a₀ chain)

module _ {a₀ a : Area} {tail chain last k : ℕ} (h : Summing a₀ tail chain a last k) where
  pub summing_inside : k < a.free
  summing_inside = omega (arith, h.at, h.adds.grew)

  -- the count of nodes of the sum so far
  last_count : {r : ℕ} → r ≡ count_in a last → r ≡ size h.tree
  last_count e = count_size a last h.some_cell h.inside e ∙ ap size (only_tree a last h.some_cell h.inside h.trees)

  pub summing_ends : k ≤ 0 → Shuts a₀ a (2 * count (trees_in a₀ chain)) 0 (Some (summed (tree_in a₀ tail) (trees_in a₀ chain))) last
  unfolding summed
  summing_ends z =
      let e : k ≡ 0 = omega arith in
      let b : size h.tree ≤ 4096 = ⊎_elim (λ b. absurd (omega arith)) (λ b. b) h.small in
      let c : (a₀.free ≤ last) × (last + 1 ≡ a.free) = ⊎_elim (λ c. absurd (omega arith)) (λ c. c) h.pushed in
      record {
        tree = h.tree;
        is = ap Some (sym h.sum ∙ ap (summed h.tree) (list_none a₀ k e));
        small = b;
        adds = h.adds;
        used = omega (arith, h.room);
        some_cell = h.some_cell;
        inside = h.inside;
        new = c.0;
        last = c.1;
        trees = h.trees ∙ ap (more h.tree) (sym (list_none a₀ 0 refl));
      }

  module _ (p : 0 < k) where
    next_summand : trees_in a₀ k ≡ more (tree_in a₀ k) (trees_in a₀ (next_in a₀ k))
    next_summand = list_more a₀ k p h.at refl

    same_summand : tree_in a k ≡ tree_in a₀ k
    same_summand = grows_tree (adds_grows h.adds) k h.at p

    summand_count : {r : ℕ} → r ≡ count_in a k → r ≡ size (tree_in a₀ k)
    summand_count e = count_size a k p summing_inside e ∙ ap size same_summand

    -- room for two cells
    pub summing_room : HasRoom a₀ (2 * count (trees_in a₀ chain)) → HasRoom a 2
    summing_room m =
        let r = h.room in
        let c = list_count a₀ k p h.at refl in
        (omega (arith, m.0, grows_length (adds_grows h.adds)), omega (arith, m.1))

    -- too many nodes
    pub summing_over : {x y : ℕ} → x ≡ count_in a k → y ≡ count_in a last → 4096 < 1 + x + y → NestsIn a₀ a (2 * count (trees_in a₀ chain)) (Some (summed (tree_in a₀ tail) (trees_in a₀ chain))) None
    unfolding summed size
    summing_over {x} {y} e f o =
        let b = summand_count e in
        let c = last_count f in (
          (λ t g.
              let n : summed (tree_in a₀ tail) (trees_in a₀ chain) ≡ t = some_injective _ t g in
              let m = ap size (sym (ap (summed h.tree) next_summand) ∙ h.sum ∙ n) in
              omega (arith, summed_size (plus (tree_in a₀ k) h.tree) (trees_in a₀ (next_in a₀ k)))),
          h.adds,
          omega (arith, h.room),
        )

    -- one summand more: its tree, and the sum with it
    module _ {b : Area} {x y pair : ℕ} (e : x ≡ count_in a k) (f : y ≡ count_in a last) (o : 1 + x + y ≤ 4096) (l : Pushes a b pair last (tree_in a k)) where
      pair_trees : trees_in b pair ≡ more (tree_in a₀ k) (more h.tree none)
      pair_trees = pushed_trees l ∙ ap₂ more same_summand h.trees

      pub pair_count : (1 + x + y ≡ 1 + sizes (trees_in b pair)) × (1 + x + y < 65536)
      unfolding size
      pair_count = (omega (arith, summand_count e, last_count f, ap sizes pair_trees), omega arith)

      pub summing_turn : {d : Area} {before i : ℕ} (plus_at : Place) → text_in a₀ plus_at ≡ tamtplus → before ≡ next_in a k → before < k → Pushes b d i 0 (apply (text_in b plus_at) (trees_in b pair)) → Summing a₀ tail chain d i before
      unfolding summed size
      summing_turn {d} {before} {i} p₁ m g q z =
          let n = g ∙ grows_next (adds_grows h.adds) k h.at in
          let ab = adds_then h.adds (adds_push l) in
          let t : apply (text_in b p₁) (trees_in b pair) ≡ plus (tree_in a₀ k) h.tree = ap₂ apply (text_lent p₁ ab.lent ∙ m) pair_trees in
          let cx = summand_count e in
          let cy = last_count f in
          record {
            adds = adds_then ab (adds_push z);
            at = omega (arith, h.at);
            some_cell = pushed_some z;
            inside = pushed_inside z;
            tree = plus (tree_in a₀ k) h.tree;
            trees = pushed_trees z ∙ ap₂ more t (list_none b 0 refl);
            sum = sym (ap (summed h.tree) (next_summand ∙ ap (λ j. more (tree_in a₀ k) (trees_in a₀ j)) (sym n))) ∙ h.sum;
            small = inr (omega arith);
            pushed = inr (omega (arith, ab.grew, z.cell), omega (arith, z.cell, z.end));
            room = omega (arith, h.room, list_count a₀ k p h.at n, l.end, z.end);
          }

-- The whole sum: the last summand without a link, the sum in front of it, and the sum with its link
pub sum_of_none : (a : Area) (chain next : ℕ) → chain ≡ 0 → ClosesIn a a (room_for a chain) next (sum_of (back (trees_in a chain) none)) None
sum_of_none a chain next e = closes_not a (room_for a chain) next (no_sum (trees_in a chain) (list_none a chain e))

module _ {a : Area} {chain k : ℕ} (c : 0 < chain) (at : chain < a.free) (e : k ≡ next_in a chain) where
  pub sum_of_one : (next : ℕ) → k ≡ 0 → ClosesIn a a (room_for a chain) next (sum_of (back (trees_in a chain) none)) None
  sum_of_one next f = closes_not a (room_for a chain) next (no_second (trees_in a chain) (tree_in a chain) (list_more a chain c at e ∙ ap (more (tree_in a chain)) (list_none a k f)))

  module _ {b : Area} {tail : ℕ} (x : Pushes a b tail 0 (tree_in a chain)) (q : k < chain) (p : 0 < k) where
    pub tail_only : CellIn b tail × (trees_in b tail ≡ more (tree_in b tail) none)
    tail_only = ((pushed_some x, pushed_inside x), pushed_trees x ∙ ap₂ more (sym (pushed_tree x)) (list_none a 0 refl))

    front : trees_in b k ≡ trees_in a k
    front = grows_trees (adds_grows (adds_push x)) k (omega arith)

    front_count : 1 + count (trees_in b k) ≡ count (trees_in a chain)
    front_count = omega (arith, ap count front, list_count a chain c at e)

    pub front_room : HasRoom a (room_for a chain) → HasRoom b (2 * count (trees_in b k))
    front_room m = room_after a (room_for a chain) m (2 * count (trees_in b k)) (adds_grows (adds_push x)) (let f = front_count in omega (arith, x.end))

    whole : sum_of (back (trees_in a chain) none) ≡ Some (summed (tree_in b tail) (trees_in b k))
    whole =
        let f = list_more a k p (omega arith) refl in
        ap (λ (y : Trees). sum_of (back y none)) (list_more a chain c at e ∙ ap (more (tree_in a chain)) f)
        ∙ sum_is (tree_in a chain) (tree_in a k) (trees_in a (next_in a k))
        ∙ ap₂ (λ (t : Tree) (y : Trees). Some (summed t y)) (sym (pushed_tree x)) (sym (front ∙ f))

    module _ {d : Area} where
      -- the tail is the first cell that is given back
      pub sum_over : (next : ℕ) {u : Area} → NestsIn b d (2 * count (trees_in b k)) (Some (summed (tree_in b tail) (trees_in b k))) None → Lent d u → u.free ≡ tail → u.work.now ≡ d.work.now
          → ClosesIn a u (room_for a chain) next (sum_of (back (trees_in a chain) none)) None
      sum_over next h l m w =
          let f = front_count in
          let g = adds_then (adds_push x) h.1 in (
            (λ t y. h.0 t (sym whole ∙ y)),
            lent_then g.lent l,
            m ∙ x.cell,
            rw w (outside_within (omega arith) (omega (arith, h.2, x.end)) g.grown),
          )

      module _ {j next : ℕ} (h : Shuts b d (2 * count (trees_in b k)) 0 (Some (summed (tree_in b tail) (trees_in b k))) j) (g : next < a.free) where
        pub sum_links : (0 < j) × (j < d.free) × (next < d.free)
        sum_links = (h.some_cell, h.inside, omega (arith, h.adds.grew, x.end))

        pub sum_room : HasRoom a (room_for a chain) → HasRoom d 1
        sum_room m = room_after a (room_for a chain) m 1 (adds_grows (adds_then (adds_push x) h.adds)) (let f = front_count in omega (arith, h.used, x.end))

        pub sum_shut : {u : Area} {i : ℕ} → Pushes d u i next (tree_in d j) → Shuts a u (room_for a chain) next (sum_of (back (trees_in a chain) none)) i
        sum_shut {u} {i} y =
            let f = front_count in
            let ad = adds_then (adds_push x) h.adds in
            let t = only_tree d j h.some_cell h.inside (h.trees ∙ ap (more h.tree) (list_none b 0 refl)) in
            record {
              tree = h.tree;
              is = whole ∙ h.is;
              small = h.small;
              adds = adds_then ad (adds_push y);
              used = omega (arith, h.used, x.end, y.end);
              some_cell = pushed_some y;
              inside = pushed_inside y;
              new = omega (arith, ad.grew, y.cell);
              last = omega (arith, y.cell, y.end);
              trees = pushed_trees y ∙ ap₂ more t (grows_trees (adds_grows ad) next g);
            }
