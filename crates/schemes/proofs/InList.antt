-- The choices for a list of cells of an area: for the first tree's children, for its root, for the later trees.
use Prim.Native.Nat.{ℕ, ◌+◌, ◌*◌, ◌/◌, ◌%◌, ◌<◌, ◌≤◌}
use native.Mathlib.Nat.{div-one, mod-eq_of_lt}
use native.Mathlib.Omega.{arith}
use mathlib.Core.Path.{◌≡◌, refl, sym, ap, ap₂, ◌∙◌, subst}
use mathlib.Core.List.{List, ◌++◌}
use mathlib.Core.Logic.{◌⊎◌, inl, inr}
use Rattle.rules.specs.Bytes.{Text}
use Rattle.rules.specs.Tree.{Tree, Trees, none, more, children, count, size, sizes}
use Rattle.rules.specs.Substitution.{Pair, flatten}
use Rattle.rules.specs.Variants.{Scheme, Joined, scheme_count, scheme_counts}
use Rattle.laws.specs.Schemes.{scheme_at, joined_at}
use Rattle.laws.specs.Memory.{site, sites, sites_in}
use Rattle.tree.specs.declared.area.Area.{Area}
use Rattle.tree.specs.Areas.{next_in, tree_in, trees_in, Grows, CellIn, HasRoom}
use Rattle.tree.proofs.Decoding.{size_pos}
use Rattle.tree.proofs.Lists.{list_more}
use Rattle.tree.proofs.Keeping.{grows_same, grows_then, adds_grows, grows_next, grows_tree, grows_trees}
use Rattle.schemes.specs.Choices.{over, appended, ways_of, root_of, joined_as, Shared}
use Rattle.schemes.specs.Areas.{Has, HasList, FreshIn}
use Rattle.schemes.specs.Making.{choice_of, ReadyIn, RootReadyIn, ChosenRootIn, FollowsIn, ChoosesIn}
use Rattle.schemes.specs.declared.firing.Draw.{Draw}
use Rattle.schemes.specs.declared.firing.Chosen.{Chosen}
use Rattle.schemes.proofs.Dividing.{Split, shared_as}
use Rattle.schemes.proofs.ByChildren.{count_children, scheme_children, sites_children, size_children, over_children, over_ways, over_root, joined_count, a_site, tree_split, child_split}
use Rattle.schemes.proofs.Bounds.{scheme_fits, joined_fits}
use Rattle.schemes.proofs.Leaves.{no_trees}
use Rattle.schemes.proofs.Lasting.{has_later, list_later, fresh_later, named_later}
use Rattle.schemes.proofs.Equations.{flatten_append, count_flatten}

-- the choices for one tree, before it is put into its list, for which a cell is left
pub record Picks (a b : Area) (name : ℕ → Text) (d : Draw) (t : Tree) (r : Chosen) : Type 0 where
  pub grows : Grows a b
  pub room : b.free + 1 ≤ a.free + 2 * size t + 64 * sites t
  pub spare : (r.equations ≡ 0) ⊎ (b.free + 49 ≤ a.free + 2 * size t + 64 * sites t)
  pub value : Has b r.values (scheme_at name t d.next (choice_of d (scheme_count t))).value
  pub equations : HasList b r.equations (flatten (scheme_at name t d.next (choice_of d (scheme_count t))).equations)
  pub next : r.left.next ≡ (scheme_at name t d.next (choice_of d (scheme_count t))).next
  pub ways : r.left.ways ≡ d.ways / scheme_count t
  pub index : r.left.index ≡ d.index % (d.ways / scheme_count t)

pub sizes_of : {ts us : Trees} {t : Tree} → ts ≡ more t us → sizes ts ≡ size t + sizes us
unfolding size
sizes_of e = ap sizes e

pub sites_of : {ts us : Trees} {t : Tree} → ts ≡ more t us → sites_in ts ≡ sites t + sites_in us
unfolding sites
sites_of e = ap sites_in e

module _ {a : Area} {fresh : ℕ} {w : Draw} (i first : ℕ) (d : ReadyIn a fresh w i) (p : 0 < i) (q : first < i) (f : trees_in a first ≡ children (tree_in a i)) where
  parts : trees_in a i ≡ more (tree_in a i) (trees_in a (next_in a i))
  parts = list_more a i p d.inside refl

  all_shared : Shared (scheme_counts (more (tree_in a i) (trees_in a (next_in a i)))) w.ways w.index
  all_shared = subst (λ (ts : Trees). Shared (scheme_counts ts) w.ways w.index) parts d.shared

  pub first_falls : sizes (trees_in a first) < sizes (trees_in a i)
  first_falls = omega (arith, ap sizes f, size_children (tree_in a i), sizes_of parts)

  pub ready_children : ReadyIn a fresh w first
  ready_children =
      let t = tree_in a i in
      let z = sizes_of parts in
      let y = sites_of parts in
      let u = size_children t in
      let v = sites_children t in
      let g = ap sizes f in
      let h = ap sites_in f in
      record {
        named = d.named;
        inside = omega (arith, d.inside);
        small = omega (arith, d.small, z, u, g);
        shared = subst (λ (ts : Trees). Shared (scheme_counts ts) w.ways w.index) (sym f) (child_split t (trees_in a (next_in a i)) all_shared).first;
        names = omega (arith, d.names, y, v, h);
        room = omega (arith, d.room, z, u, g, y, v, h);
        bits = omega (arith, d.bits, z, u, g, y, v, h);
      }

  -- after the children
  module _ {b : Area} (name : ℕ → Text) (k : FreshIn a fresh name) (below : Chosen) (c : (name : ℕ → Text) → FreshIn a fresh name → ChoosesIn a b name w (trees_in a first) below) where
    abbrev t₀ : Tree
    t₀ = tree_in a i

    chosen : ChoosesIn a b name w (children t₀) below
    chosen = subst (λ (ts : Trees). ChoosesIn a b name w ts below) f (c name k)

    abbrev child_index : ℕ
    child_index = w.index / (w.ways / scheme_counts (children t₀))

    abbrev new_children : Joined
    new_children = joined_at name (children t₀) w.next child_index

    kept_count : count new_children.values ≡ count (children t₀)
    kept_count = joined_count name (children t₀) w.next child_index

    same_tree : tree_in b i ≡ t₀
    same_tree = grows_tree chosen.grows i d.inside p

    -- the tree with its new children
    abbrev new_tree : Tree
    new_tree = over (tree_in b i) (trees_in b below.values)

    new_is : new_tree ≡ over t₀ new_children.values
    new_is = ap₂ over same_tree chosen.values.trees

    ways_are : ways_of new_tree ≡ ways_of t₀
    ways_are = ap ways_of new_is ∙ over_ways t₀ new_children.values kept_count

    splits : Split (scheme_counts (children t₀)) (ways_of t₀) w.ways w.index
    splits = child_split t₀ (trees_in a (next_in a i)) all_shared

    pub ready_root : RootReadyIn b fresh below i
    ready_root =
        let z = sizes_of parts in
        let y = sites_of parts in
        let g = size_children t₀ in
        let h = sites_children t₀ in
        let x = joined_fits name (children t₀) w.next child_index in
        let u = chosen.used in
        let l = chosen.grows.below.len in
        record {
          named = named_later chosen.grows d.named;
          some_cell = p;
          inside = omega (arith, d.inside, chosen.grows.grew);
          values = chosen.values.inside;
          equations = chosen.equations.inside;
          pairs = record { pairs = new_children.equations; list = chosen.equations.trees };
          small = omega (arith, ap sizes chosen.values.trees, x.nodes, g, z, d.small);
          shared = shared_as ways_are chosen.ways chosen.index splits.rest;
          names = omega (arith, chosen.next, x.names, ap site ways_are, h, y, d.names);
          room = omega (arith, u, l, g, h, z, y, d.room);
          bits = omega (arith, u, g, h, z, y, d.bits);
        }

    -- the root's choice
    module _ {m : Area} (here : Chosen) (made : (name : ℕ → Text) → FreshIn b fresh name → (es : List Pair) → trees_in b below.equations ≡ flatten es → ChosenRootIn b m name below new_tree es here) where
      x : ChosenRootIn b m name below new_tree new_children.equations here
      x = made name (fresh_later chosen.grows k) new_children.equations chosen.equations.trees

      left_is : w.ways / scheme_counts (children t₀) / ways_of t₀ ≡ w.ways / scheme_count t₀
      left_is = splits.ways_left ∙ ap (λ (c : ℕ). w.ways / c) (sym (count_children t₀))

      here_ways : below.left.ways / ways_of new_tree ≡ w.ways / scheme_count t₀
      here_ways = ap₂ ◌/◌ chosen.ways ways_are ∙ left_is

      by_count : (g : ℕ → ℕ) → g (w.ways / (scheme_counts (children t₀) * ways_of t₀)) ≡ g (w.ways / scheme_count t₀)
      by_count g = ap (λ (c : ℕ). g (w.ways / c)) (sym (count_children t₀))

      choice_is : below.left.index / (below.left.ways / ways_of new_tree) ≡ w.index / (w.ways / scheme_count t₀) % ways_of t₀
      choice_is =
          ap₂ ◌/◌ chosen.index here_ways
          ∙ sym (by_count (λ q. w.index % (w.ways / scheme_counts (children t₀)) / q))
          ∙ splits.choice
          ∙ by_count (λ q. w.index / q % ways_of t₀)

      joined_is : joined_as (children new_tree) new_children.equations below.left.next ≡ joined_at name (children t₀) w.next (w.index / (w.ways / scheme_count t₀) / ways_of t₀)
      joined_is =
          ap₂ (λ (ts : Trees) (m : ℕ). joined_as ts new_children.equations m) (ap children new_is ∙ over_children t₀ new_children.values kept_count) chosen.next
          ∙ ap (joined_at name (children t₀) w.next) (splits.quotient ∙ by_count (λ q. w.index / q / ways_of t₀))

      scheme_is : root_of name new_tree (joined_as (children new_tree) new_children.equations below.left.next) (below.left.index / (below.left.ways / ways_of new_tree)) ≡ scheme_at name t₀ w.next (w.index / (w.ways / scheme_count t₀))
      scheme_is =
          ap₂ (root_of name new_tree) joined_is choice_is
          ∙ ap (λ (t : Tree). root_of name t (joined_at name (children t₀) w.next (w.index / (w.ways / scheme_count t₀) / ways_of t₀)) (w.index / (w.ways / scheme_count t₀) % ways_of t₀)) new_is
          ∙ over_root name t₀ new_children.values _ _
          ∙ sym (scheme_children name t₀ w.next (w.index / (w.ways / scheme_count t₀)))

      room_is : m.free + 1 ≤ a.free + 2 * size t₀ + 64 * sites t₀
      room_is = go x.cells
        where
          go : ((m.free ≤ b.free + 1) × (here.equations ≡ below.equations)) ⊎ (1 < ways_of new_tree) → m.free + 1 ≤ a.free + 2 * size t₀ + 64 * sites t₀
          go (inl h) = omega (arith, h.0, chosen.used, size_children t₀, sites_children t₀)
          go (inr h) = omega (arith, x.used, chosen.used, size_children t₀, sites_children t₀, a_site (ways_of t₀) (omega (arith, ways_are)))

      pub picks : Picks a m name w t₀ here
      picks = record {
        grows = grows_then chosen.grows x.grows;
        room = room_is;
        spare = go x.cells chosen.spare;
        value = subst (λ (y : Scheme). Has m here.values y.value) scheme_is x.value;
        equations = subst (λ (y : Scheme). HasList m here.equations (flatten y.equations)) scheme_is x.equations;
        next = x.next ∙ ap (λ (y : Scheme). y.next) scheme_is;
        ways = x.ways ∙ here_ways;
        index = x.index ∙ ap₂ ◌%◌ chosen.index here_ways ∙ sym (by_count (λ q. w.index % (w.ways / scheme_counts (children t₀)) % q)) ∙ splits.left ∙ by_count (λ q. w.index % q);
      }
        where
          go : ((m.free ≤ b.free + 1) × (here.equations ≡ below.equations)) ⊎ (1 < ways_of new_tree)
              → (below.equations ≡ 0) ⊎ (b.free + 48 ≤ a.free + 2 * sizes (children t₀) + 64 * sites_in (children t₀))
              → (here.equations ≡ 0) ⊎ (m.free + 49 ≤ a.free + 2 * size t₀ + 64 * sites t₀)
          go (inl h) (inl k) = inl (h.1 ∙ k)
          go (inl h) (inr k) = inr (omega (arith, h.0, k, size_children t₀, sites_children t₀))
          go (inr h) k = inr (omega (arith, x.used, chosen.used, size_children t₀, sites_children t₀, a_site (ways_of t₀) (omega (arith, ways_are))))

-- after the first tree
module _ {a m : Area} {fresh : ℕ} {w : Draw} (i : ℕ) (d : ReadyIn a fresh w i) (p : 0 < i) (name : ℕ → Text) (k : FreshIn a fresh name) (here : Chosen) (h : Picks a m name w (tree_in a i) here) where
  abbrev first_tree : Tree
  first_tree = tree_in a i

  abbrev later_trees : Trees
  later_trees = trees_in a (next_in a i)

  list_is : trees_in a i ≡ more first_tree later_trees
  list_is = list_more a i p d.inside refl

  first_split : Split (scheme_count first_tree) (scheme_counts later_trees) w.ways w.index
  first_split = tree_split first_tree later_trees (subst (λ (ts : Trees). Shared (scheme_counts ts) w.ways w.index) list_is d.shared)

  later_is : {later : ℕ} → later ≡ next_in m i → trees_in m later ≡ later_trees
  later_is e = ap (trees_in m) (e ∙ grows_next h.grows i d.inside) ∙ grows_trees h.grows (next_in a i) (omega (arith, a.arena.links.next i p d.inside, d.inside))

  pub later_falls : {later : ℕ} → later ≡ next_in m i → sizes (trees_in m later) < sizes (trees_in a i)
  later_falls e = omega (arith, ap sizes (later_is e), sizes_of list_is, size_pos first_tree)

  pub ready_later : {later : ℕ} → later ≡ next_in m i → later < i → ReadyIn m fresh here.left later
  ready_later {later} e l =
      let z = sizes_of list_is in
      let y = sites_of list_is in
      let g = later_is e in
      let x = scheme_fits name first_tree w.next (w.index / (w.ways / scheme_count first_tree)) in
      record {
        named = named_later h.grows d.named;
        inside = omega (arith, l, d.inside, h.grows.grew);
        small = omega (arith, ap sizes g, z, d.small);
        shared = shared_as (ap scheme_counts g) h.ways h.index first_split.rest;
        names = omega (arith, h.next, x.names, ap sites_in g, y, d.names);
        room = omega (arith, h.room, h.grows.below.len, ap sites_in g, ap sizes g, z, y, d.room);
        bits = omega (arith, h.room, ap sites_in g, ap sizes g, z, y, d.bits);
      }

  module _ {b : Area} (later : ℕ) (e : later ≡ next_in m i) (rest : Chosen) (c : (name : ℕ → Text) → FreshIn m fresh name → ChoosesIn m b name here.left (trees_in m later) rest) where
    rest_chosen : ChoosesIn m b name here.left later_trees rest
    rest_chosen = subst (λ (ts : Trees). ChoosesIn m b name here.left ts rest) (later_is e) (c name (fresh_later h.grows k))

    value_later : Has b here.values (scheme_at name first_tree w.next (w.index / (w.ways / scheme_count first_tree))).value
    value_later = has_later rest_chosen.grows h.value

    equations_later : HasList b here.equations (flatten (scheme_at name first_tree w.next (w.index / (w.ways / scheme_count first_tree))).equations)
    equations_later = list_later rest_chosen.grows h.equations

    few : count (trees_in b here.equations) ≤ 48
    few =
        let x = scheme_fits name first_tree w.next (w.index / (w.ways / scheme_count first_tree)) in
        omega (arith, ap count equations_later.trees, count_flatten (scheme_at name first_tree w.next (w.index / (w.ways / scheme_count first_tree))).equations, x.equations, d.names, sites_of list_is)

    pub join_cells : CellIn b here.values × (here.equations < b.free) × (rest.values < b.free) × (rest.equations < b.free)
    join_cells = ((h.value.some_cell, value_later.inside), equations_later.inside, rest_chosen.values.inside, rest_chosen.equations.inside)

    pub join_room : HasRoom b (1 + count (trees_in b here.equations))
    join_room =
        let o = rest_chosen.used in (
          omega (arith, few, o, rest_chosen.grows.below.len, h.room, h.grows.below.len, sizes_of list_is, sites_of list_is, d.room),
          omega (arith, few, o, h.room, sizes_of list_is, sites_of list_is, d.bits),
        )

    module _ {v : Area} (r : Chosen) (z : FollowsIn b v here.values here.equations rest r) where
      all_left : w.ways / scheme_count first_tree / scheme_counts later_trees ≡ w.ways / (scheme_count first_tree * scheme_counts later_trees)
      all_left = first_split.ways_left

      rest_ways : here.left.ways / scheme_counts later_trees ≡ w.ways / (scheme_count first_tree * scheme_counts later_trees)
      rest_ways = ap (λ (m : ℕ). m / scheme_counts later_trees) h.ways ∙ all_left

      rest_index : here.left.index / (here.left.ways / scheme_counts later_trees) ≡ w.index / (w.ways / (scheme_count first_tree * scheme_counts later_trees)) % scheme_counts later_trees
      rest_index = ap₂ ◌/◌ h.index rest_ways ∙ first_split.choice

      abbrev first_scheme : Scheme
      first_scheme = scheme_at name first_tree w.next (w.index / (w.ways / (scheme_count first_tree * scheme_counts later_trees)) / scheme_counts later_trees)

      first_is : scheme_at name first_tree w.next (w.index / (w.ways / scheme_count first_tree)) ≡ first_scheme
      first_is = ap (scheme_at name first_tree w.next) first_split.quotient

      abbrev rest_joined : Joined
      rest_joined = joined_at name later_trees first_scheme.next (w.index / (w.ways / (scheme_count first_tree * scheme_counts later_trees)) % scheme_counts later_trees)

      rest_is : joined_at name later_trees here.left.next (here.left.index / (here.left.ways / scheme_counts later_trees)) ≡ rest_joined
      rest_is = ap₂ (joined_at name later_trees) (h.next ∙ ap (λ (y : Scheme). y.next) first_is) rest_index

      values_are : trees_in v r.values ≡ more first_scheme.value rest_joined.values
      values_are =
          z.values.trees
          ∙ ap₂ more (value_later.tree ∙ ap (λ (y : Scheme). y.value) first_is) (rest_chosen.values.trees ∙ ap (λ (y : Joined). y.values) rest_is)

      equations_are : trees_in v r.equations ≡ flatten (first_scheme.equations ++ rest_joined.equations)
      equations_are =
          z.list.trees
          ∙ ap₂ appended (equations_later.trees ∙ ap (λ (y : Scheme). flatten y.equations) first_is) (rest_chosen.equations.trees ∙ ap (λ (y : Joined). flatten y.equations) rest_is)
          ∙ sym (flatten_append first_scheme.equations rest_joined.equations)

      spares : (r.equations ≡ 0) ⊎ (v.free + 48 ≤ a.free + 2 * (size first_tree + sizes later_trees) + 64 * (sites first_tree + sites_in later_trees))
      spares = go h.spare rest_chosen.spare
        where
          go : (here.equations ≡ 0) ⊎ (m.free + 49 ≤ a.free + 2 * size first_tree + 64 * sites first_tree)
              → (rest.equations ≡ 0) ⊎ (b.free + 48 ≤ m.free + 2 * sizes later_trees + 64 * sites_in later_trees)
              → (r.equations ≡ 0) ⊎ (v.free + 48 ≤ a.free + 2 * (size first_tree + sizes later_trees) + 64 * (sites first_tree + sites_in later_trees))
          go (inl k) (inl l) = inl ((z.first_none k).1 ∙ l)
          go (inl k) (inr l) = inr (omega (arith, (z.first_none k).0, l, h.room))
          go (inr k) (inl l) = inr (omega (arith, (z.second_none l).0, k, rest_chosen.used))
          go (inr k) (inr l) = inr (omega (arith, z.used, few, k, l))

      cells_used : v.free ≤ a.free + (2 * (size first_tree + sizes later_trees) + 64 * (sites first_tree + sites_in later_trees))
      cells_used = go h.spare spares
        where
          go : (here.equations ≡ 0) ⊎ (m.free + 49 ≤ a.free + 2 * size first_tree + 64 * sites first_tree)
              → (r.equations ≡ 0) ⊎ (v.free + 48 ≤ a.free + 2 * (size first_tree + sizes later_trees) + 64 * (sites first_tree + sites_in later_trees))
              → v.free ≤ a.free + (2 * (size first_tree + sizes later_trees) + 64 * (sites first_tree + sites_in later_trees))
          go (inl k) l = omega (arith, (z.first_none k).0, rest_chosen.used, h.room)
          go (inr k) l = omega (arith, z.used, few, rest_chosen.used, k)

      chosen_more : ChoosesIn a v name w (more first_tree later_trees) r
      unfolding joined_at scheme_counts size sites
      chosen_more = record {
        grows = grows_then h.grows (grows_then rest_chosen.grows (adds_grows z.adds));
        used = cells_used;
        spare = spares;
        values = record { inside = z.values.inside; trees = values_are };
        equations = record { inside = z.list.inside; trees = equations_are };
        next = ap (λ (l : Draw). l.next) z.left ∙ rest_chosen.next ∙ ap (λ (y : Joined). y.next) rest_is;
        ways = ap (λ (l : Draw). l.ways) z.left ∙ rest_chosen.ways ∙ rest_ways;
        index = ap (λ (l : Draw). l.index) z.left ∙ rest_chosen.index ∙ ap₂ ◌%◌ h.index rest_ways ∙ first_split.left;
      }

      pub chosen_list : ChoosesIn a v name w (trees_in a i) r
      chosen_list = subst (λ (ts : Trees). ChoosesIn a v name w ts r) (sym list_is) chosen_more

-- no tree
chosen_nothing : {a : Area} {w : Draw} (name : ℕ → Text) → w.index < w.ways → ChoosesIn a a name w none (record { values = 0; equations = 0; left = w })
unfolding joined_at scheme_counts size sites flatten
chosen_nothing {a} {w} name l = record {
  grows = grows_same a;
  used = omega arith;
  spare = inl refl;
  values = record { inside = a.arena.links.some; trees = no_trees a };
  equations = record { inside = a.arena.links.some; trees = no_trees a };
  next = refl;
  ways = sym (div-one w.ways);
  index = sym (ap (λ (m : ℕ). w.index % m) (div-one w.ways) ∙ mod-eq_of_lt l);
}

pub chosen_none : {a : Area} {fresh : ℕ} {w : Draw} {i : ℕ} → ReadyIn a fresh w i → i ≡ 0 → (name : ℕ → Text) → ChoosesIn a a name w (trees_in a i) (record { values = 0; equations = 0; left = w })
chosen_none {a} {w = w} {i = i} d e name =
    subst (λ (ts : Trees). ChoosesIn a a name w ts (record { values = 0; equations = 0; left = w })) (sym (ap (trees_in a) e ∙ no_trees a)) (chosen_nothing name d.shared.below)
