-- A member's values over an area: a variable found by its name, an entry's value read or passed over, and the walk over the entries.
use Prim.Native.Nat.{ℕ, zero, suc, ◌+◌, ◌*◌, ◌-◌, ◌<◌, ◌≤◌, ◌^◌}
use mathlib.Core.Path.{◌≡◌, refl, sym, ap, ap₂, subst, ◌∙◌}
use mathlib.Core.Bool.{Bool, true, false, false≢true, cond, ◌||◌}
use mathlib.Core.List.{List, ◌∷◌}
use lib.ListN.{length}
use native.Mathlib.Omega.{arith}
use Rattle.std.specs.Prelude.{Option, Some, None, is_some, option_map}
use Rattle.std.specs.List.{find}
use Rattle.rules.specs.Bytes.{Text, same}
use Rattle.rules.specs.Text.{bytes, is_one_of}
use Rattle.rules.specs.Tree.{Tree, Trees, more}
use Rattle.rules.specs.Matching.{bound}
use Rattle.rules.specs.Substitution.{Binding}
use Rattle.rules.specs.Sheet.{Entry}
use Rattle.rules.specs.Cover.{entry_at}
use Rattle.sheet.specs.Pairs.{two_lines_at}
use Rattle.sheet.specs.declared.Cursor.{Cursor}
use Rattle.sheet.specs.declared.Place.{Place}
use Rattle.sheet.specs.declared.Read.{Read}
use Rattle.sheet.specs.declared.Sides.{Sides}
use Rattle.text.proofs.Sameness.{same_swap}
use Rattle.laws.proofs.Basics.Tests.{same_eq, or_left}
use Rattle.tree.specs.declared.area.Area.{Area}
use Rattle.tree.specs.Cells.{kind_of}
use Rattle.tree.proofs.Decoding.{kind, trees_none, trees_more}
use Rattle.tree.specs.Areas.{next_in, name_in, tree_in, trees_in, Grows}
use Rattle.tree.specs.Lists.{cells_from}
use Rattle.tree.proofs.Chains.{cells_none, cells_more}
use Rattle.tree.proofs.Keeping.{grows_same, grows_then, grows_keeps, grows_length, adds_grows, grows_name, grows_trees}
use Rattle.forms.specs.Form.{entry_of, text_of, Inside}
use Rattle.forms.specs.Members.{EntriesThen}
use Rattle.forms.proofs.Located.{Located, entry_located}
use Rattle.forms.proofs.WalkLaws.{two_there, two_end}
use Rattle.reading.specs.Parsing.{stack_end}
use Rattle.reading.specs.Areas.{Reads, UnreadIn}
use Rattle.reading.proofs.Keeping.{reads_grows, unread_keeps}
use Rattle.substitution.specs.Bindings.{bindings_of}
use Rattle.substitution.specs.Areas.{bindings_in, FindsIn, Lists}
use Rattle.substitution.proofs.Keys.{key_name, bindings_none}
use Rattle.substitution.proofs.Putting.{bindings_pair}
use Rattle.variables.specs.Pairing.{names_of, OfVariables}
use Rattle.variables.specs.Areas.{VariablesIn}
use Rattle.values.specs.Values.{value_in, resumed, OneUnread}
use Rattle.values.specs.Areas.{FoundVariable, FindsVariableIn, ValuedIn, UnreadValue, ValuesIn}
use Rattle.variables.proofs.Pairings.{first_variable}
use Rattle.values.proofs.Resuming.{resumed_lookup, resumed_other, resumed_bound, resumed_unread, resumed_read}

-- ---- a variable found by its name

-- x is one of the variables of the list where it is one of those from cell k on
record Finding (a : Area) (names : ℕ) (x : Text) (k : ℕ) : Type 0 where
  left : VariablesIn a k
  are : is_one_of (names_of (trees_in a names)) x ≡ is_one_of (names_of (trees_in a k)) x

module _ (a : Area) (names : ℕ) (x : Text) {k : ℕ} (h : Finding a names x k) where
  found_none : k ≡ 0 → is_one_of (names_of (trees_in a names)) x ≡ false
  unfolding names_of is_one_of
  found_none e = h.are ∙ ap (λ (ts : Trees). is_one_of (names_of ts) x) (trees_none a.sheet.now a.work.now k e)

  module _ (p : 0 < k) where
    parts : trees_in a k ≡ more (tree_in a k) (trees_in a (next_in a k))
    parts = trees_more a.sheet.now a.arena.links k p h.left.inside

    by_first : is_one_of (names_of (trees_in a k)) x ≡ same x (name_in a k) || is_one_of (names_of (trees_in a (next_in a k))) x
    unfolding names_of is_one_of
    by_first =
        ap (λ (ts : Trees). is_one_of (names_of ts) x) parts
        ∙ ap (λ (y : Text). same x y || is_one_of (names_of (trees_in a (next_in a k))) x) (key_name a.sheet.now a.work.now k (kind (kind_of a.work.now k)))

    found_here : same (name_in a k) x ≡ true → FoundVariable a (names_of (trees_in a names)) x k
    found_here e = record {
      some_cell = p;
      inside = h.left.inside;
      named = same_eq (name_in a k) x e;
      present = h.are ∙ by_first ∙ or_left (same x (name_in a k)) (is_one_of (names_of (trees_in a (next_in a k))) x) (same_swap x (name_in a k) ∙ e);
    }

    found_later : (j : ℕ) → j ≡ next_in a k → same (name_in a k) x ≡ false → Finding a names x j
    found_later j f e = record {
      left = record {
        inside = omega (arith, f, h.left.inside, a.arena.links.next k p h.left.inside);
        variables = subst (λ (j : ℕ). OfVariables (trees_in a j)) (sym f) (first_variable (tree_in a k) (trees_in a (next_in a k)) (subst OfVariables parts h.left.variables)).1;
      };
      are = h.are ∙ by_first ∙ ap (λ (b : Bool). b || is_one_of (names_of (trees_in a (next_in a k))) x) (same_swap x (name_in a k) ∙ e) ∙ ap (λ (j : ℕ). is_one_of (names_of (trees_in a j)) x) (sym f);
    }

-- the first cell whose name is x, or none of them
found : (a : Area) (names : ℕ) (x : Text) (f k : ℕ) → k ≤ f → Finding a names x k → FindsVariableIn a (names_of (trees_in a names)) x (find (λ i. same (name_in a i) x) (cells_from a k))
found a names x f zero p h = rw (cells_none a zero refl) (found_none a names x h refl)
found a names x zero (suc k) p h = absurd (omega arith)
found a names x (suc f) (suc k) p h =
    let n = a.arena.links.next (suc k) (omega arith) h.left.inside in
    rw (cells_more a (suc k) (omega arith) h.left.inside) (go (same (name_in a (suc k)) x) refl _ (found a names x f (next_in a (suc k)) (omega arith)))
  where
    go : (b : Bool) → same (name_in a (suc k)) x ≡ b → (rest : Option ℕ) → (Finding a names x (next_in a (suc k)) → FindsVariableIn a (names_of (trees_in a names)) x rest)
        → FindsVariableIn a (names_of (trees_in a names)) x (cond b (Some (suc k)) rest)
    go true e rest ih = found_here a names x h (omega arith) e
    go false e rest ih = ih (found_later a names x h (omega arith) (next_in a (suc k)) refl e)

pub found_first : (a : Area) (names : ℕ) (x : Text) (o : Option ℕ) → VariablesIn a names → option_map (λ (i : ℕ). i) o ≡ find (λ i. same (name_in a i) x) (cells_from a names)
    → FindsVariableIn a (names_of (trees_in a names)) x o
found_first a names x o v e = subst (FindsVariableIn a (names_of (trees_in a names)) x) (sym e ∙ same_option o) (found a names x names names (omega arith) (record { left = v; are = refl }))
  where
    same_option : (o : Option ℕ) → option_map (λ (i : ℕ). i) o ≡ o
    same_option None = refl
    same_option (Some i) = refl

-- ---- what is looked up

module _ (a : Area) (bs : List Binding) (x : Text) where
  pub looked_some : (o : Option ℕ) → is_some o ≡ true → FindsIn a bs x o → (t : Tree) × (bound x bs ≡ Some t)
  looked_some (Some k) e f = (tree_in a k, f.is_bound)
  looked_some None e f = absurd (false≢true e)

  pub looked_none : (o : Option ℕ) → is_some o ≡ false → FindsIn a bs x o → bound x bs ≡ None
  looked_none (Some k) e f = absurd (false≢true (sym e))
  looked_none None e f = f.0

-- ---- one entry

module _ (a : Area) (ns : List Text) (key value : Place) (list : ℕ) (q : list < a.free) where
  abbrev its : Entry
  its = entry_of a.sheet.now key value

  passed : ((fs : List Entry) (y : Text) → is_one_of ns y ≡ true → resumed (bound y (bindings_in a list)) (value_in (its ∷ fs) y) ≡ resumed (bound y (bindings_in a list)) (value_in fs y))
      → ValuedIn a a ns key value list list
  passed h = record { grows = grows_same a; inside = q; used = omega arith; keeps = h }

  -- the key is no variable
  pub valued_other : is_one_of ns (text_of a.sheet.now key) ≡ false → ValuedIn a a ns key value list list
  valued_other e = passed (resumed_other its (bindings_in a list) ns e)

  module _ {x : ℕ} (v : FoundVariable a ns (text_of a.sheet.now key) x) where
    by_key : {o : Option Tree} → bound (name_in a x) (bindings_in a list) ≡ o → bound (text_of a.sheet.now key) (bindings_in a list) ≡ o
    by_key e = ap (λ (y : Text). bound y (bindings_in a list)) (sym v.named) ∙ e

    -- the key is bound
    pub valued_bound : {t : Tree} → bound (name_in a x) (bindings_in a list) ≡ Some t → ValuedIn a a ns key value list list
    valued_bound {t} e = passed (λ fs y one. resumed_bound its (bindings_in a list) t (by_key e) fs y)

    -- its value is unreadable
    pub valued_unread : {b : Area} → bound (name_in a x) (bindings_in a list) ≡ None → UnreadIn a b value → UnreadValue a b ns key value list
    valued_unread e u = record {
      name = text_of a.sheet.now key;
      one = v.present;
      fails = resumed_unread its (bindings_in a list) (by_key e) u.unread;
      grows = grows_keeps (unread_keeps u);
    }

    -- its value is read
    module _ {b : Area} {i : ℕ} (r : Reads a b value i) where
      pub valued_read : {d : Area} {j : ℕ} → bound (name_in a x) (bindings_in a list) ≡ None → Lists b d j (more (tree_in b x) (more (tree_in b i) (trees_in b list))) → d.free ≡ b.free + 2 → ValuedIn a d ns key value list j
      valued_read {d} {j} e l z =
          let g = reads_grows r in
          let all : bindings_in d j ≡ (text_of a.sheet.now key, tree_in b i) ∷ bindings_in a list =
          ap bindings_of l.trees ∙ bindings_pair b x (tree_in b i) (trees_in b list)
          ∙ ap₂ (λ (y : Text) (ts : Trees). (y, tree_in b i) ∷ bindings_of ts) (grows_name g x v.inside ∙ v.named) (grows_trees g list q)
          in
          record {
            grows = grows_then g (adds_grows l.adds);
            inside = l.inside;
            used = omega (arith, r.room);
            keeps = λ fs y one. resumed_read its (bindings_in a list) (tree_in b i) (by_key e) r.reads fs y ∙ ap (λ (bs : List Binding). resumed (bound y bs) (value_in fs y)) (sym all);
          }

-- ---- the walk over the entries

-- the entries from c on are those that are left, and the bindings give what was found before
abbrev pub LaterIn : Area → Text → List Text → ℕ → ℕ → List Entry → List Text → Type 0
LaterIn b s ns c list es rest = (fs : List Entry) × EntriesThen s c fs rest × ((y : Text) → is_one_of ns y ≡ true → value_in es y ≡ resumed (bound y (bindings_in b list)) (value_in fs y))

pub record WalkingIn (a b : Area) (names at : ℕ) (c : Cursor) (list : ℕ) : Type 0 where
  pub grows : Grows a b
  pub inside : list < b.free
  pub used : b.free + 2 * at ≤ a.free + 2 * c.at
  pub low : at ≤ c.at
  pub within : c.at ≤ length a.sheet.now
  pub later : (es : List Entry) (rest : List Text) → EntriesThen a.sheet.now at es rest → LaterIn b a.sheet.now (names_of (trees_in a names)) c.at list es rest

pub walk_starts : (a : Area) (names : ℕ) (c : Cursor) → c.at ≤ length a.sheet.now → WalkingIn a a names c.at c 0
unfolding bound
walk_starts a names c p = record {
  grows = grows_same a;
  inside = a.arena.links.some;
  used = omega arith;
  low = omega arith;
  within = p;
  later = λ es rest f. (es, f, λ y o. sym (ap (λ (bs : List Binding). resumed (bound y bs) (value_in es y)) (bindings_none a.sheet.now a.work.now 0 refl)));
}

module _ {a b : Area} {names at list : ℕ} {c : Cursor} (v : VariablesIn a names) (h : WalkingIn a b names at c list) where
  names_kept : trees_in b names ≡ trees_in a names
  names_kept = grows_trees h.grows names v.inside

  pub walk_ends : None ≡ two_lines_at (bytes "key=") (bytes "value=") b.sheet.now c.at → ValuesIn a b (names_of (trees_in a names)) at record { value = list; next = c }
  unfolding value_in entry_at
  walk_ends e =
      let d = rw h.grows.lent.sheet at e in
      record {
        low = h.low;
        high = h.within;
        ends = λ es rest f. (let (fs, g, k) = h.later es rest f in (two_end (bytes "key=") (bytes "value=") a.sheet.now c.at fs rest g d).1);
        grows = h.grows;
        inside = h.inside;
        used = omega (arith, h.used, h.low);
        gives = λ es f y o. (
            let (fs, g, k) = h.later es f.0 f.1 in
            k y o ∙ ap (λ (fs : List Entry). resumed (bound y (bindings_in b list)) (value_in fs y)) (two_end (bytes "key=") (bytes "value=") a.sheet.now c.at fs f.0 g d).0 ∙ resumed_lookup y (bindings_in b list)
            );
      }

  module _ (two : Read Sides) (e : Some two ≡ two_lines_at (bytes "key=") (bytes "value=") b.sheet.now c.at) where
    its_lines : Some two ≡ two_lines_at (bytes "key=") (bytes "value=") a.sheet.now c.at
    its_lines = rw h.grows.lent.sheet at e

    pub walk_placed : Located a.sheet.now c.at 12 two
    walk_placed = entry_located a.sheet.now c.at two its_lines

    pub walk_inside : length a.sheet.now ≤ 65536 → Inside b.sheet.now two.value.left × Inside b.sheet.now two.value.right × (length b.sheet.now ≤ 65536)
    walk_inside l = rw h.grows.lent.sheet (walk_placed.left, walk_placed.right, l)

    pub walk_room : (4 * a.free + 11 * length a.sheet.now + 9 ≤ length a.work.now) × (a.free + 2 * length a.sheet.now + 2 < 2 ^ 32)
        → (stack_end b.free two.value.right.from two.value.right.to + 8 ≤ length b.work.now) × (b.free + 2 * (two.value.right.to - two.value.right.from) + 2 < 2 ^ 32)
    walk_room r =
        let x = walk_placed in (
          omega (arith, r.0, h.used, h.low, x.next, x.within, grows_length h.grows),
          omega (arith, r.1, h.used, h.low, x.next, x.within),
        )

    after_entry : (es : List Entry) (rest : List Text) → EntriesThen a.sheet.now at es rest
        → (gs : List Entry) × EntriesThen a.sheet.now two.next.at gs rest × ((y : Text) → is_one_of (names_of (trees_in a names)) y ≡ true → value_in es y ≡ resumed (bound y (bindings_in b list)) (value_in (entry_of a.sheet.now two.value.left two.value.right ∷ gs) y))
    after_entry es rest f =
        let (fs, g, k) = h.later es rest f in
        let (gs, d, t) = two_there (bytes "key=") (bytes "value=") a.sheet.now c.at fs rest g two its_lines in
        (gs, t, λ y o. k y o ∙ ap (λ (fs : List Entry). resumed (bound y (bindings_in b list)) (value_in fs y)) d)

    its_entry : entry_of a.sheet.now two.value.left two.value.right ≡ entry_of b.sheet.now two.value.left two.value.right
    its_entry = ap (λ s. entry_of s.now two.value.left two.value.right) (sym h.grows.lent.sheet)

    pub walk_unread : {d : Area} → UnreadValue b d (names_of (trees_in b names)) two.value.left two.value.right list → OneUnread a.sheet.now (names_of (trees_in a names)) at × Grows a d
    walk_unread x = (
      (λ es f. (
          let (gs, g, k) = after_entry es f.0 f.1 in
          let one : is_one_of (names_of (trees_in a names)) x.name ≡ true = ap (λ (ts : Trees). is_one_of (names_of ts) x.name) (sym names_kept) ∙ x.one in
          (x.name, one, k x.name one ∙ ap (λ (i : Entry). resumed (bound x.name (bindings_in b list)) (value_in (i ∷ gs) x.name)) its_entry ∙ x.fails gs))),
      grows_then h.grows x.grows,
    )

    pub walk_turn : {d : Area} {i : ℕ} → ValuedIn b d (names_of (trees_in b names)) two.value.left two.value.right list i → WalkingIn a d names at two.next i
    walk_turn {d} {i} x =
        let y = walk_placed in
        record {
          grows = grows_then h.grows x.grows;
          inside = x.inside;
          used = omega (arith, x.used, h.used, y.next);
          low = omega (arith, h.low, y.next);
          within = y.within;
          later = λ es rest f. (
              let (gs, t, k) = after_entry es rest f in
              (gs, t, λ z o. k z o ∙ ap (λ (i : Entry). resumed (bound z (bindings_in b list)) (value_in (i ∷ gs) z)) its_entry ∙ x.keeps gs z (ap (λ (ts : Trees). is_one_of (names_of ts) z) names_kept ∙ o))
              );
        }
