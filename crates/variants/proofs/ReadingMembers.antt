-- A member read into cells of an area: an entry, the walk over all of them, and the member.
use Prim.Native.Nat.{ℕ, ◌+◌, ◌*◌, ◌-◌, ◌<◌, ◌≤◌}
use native.Mathlib.Omega.{arith}
use mathlib.Core.Path.{◌≡◌, refl, sym, ap, ap₂, ◌∙◌, subst}
use mathlib.Core.Bool.{true, false}
use mathlib.Core.List.{List, [], ◌∷◌, ◌++◌, map}
use Rattle.std.specs.Prelude.{Some, None}
use lib.ListN.{length, drop}
use Rattle.rules.specs.Bytes.{Text}
use Rattle.rules.specs.Text.{bytes}
use Rattle.rules.specs.Maybe.{every}
use Rattle.rules.specs.Tree.{variable, Trees, more, size, sizes}
use Rattle.rules.specs.Reading.{parse}
use Rattle.rules.specs.Substitution.{Binding}
use Rattle.rules.specs.Sheet.{Entry, distinct_keys}
use Rattle.rules.specs.Variants.{read_entry}
use Rattle.laws.proofs.Reading.Builds.{reads_within}
use Rattle.tree.specs.declared.area.Area.{Area}
use Rattle.tree.specs.Areas.{tree_in, trees_in, Grows, Pushes}
use Rattle.tree.specs.Spelled.{text_in, Spelled}
use Rattle.tree.proofs.Keeping.{adds_grows, grows_same, grows_then, grows_tree, grows_trees}
use Rattle.tree.proofs.Lists.{list_none}
use Rattle.tree.proofs.Spelling.{text_lent}
use Rattle.reading.specs.Areas.{Reads, UnreadIn, texts_end_in}
use Rattle.reading.proofs.Keeping.{reads_grows, unread_grows, sheet_length}
use Rattle.substitution.specs.Bindings.{bindings_of, Chain}
use Rattle.substitution.specs.Areas.{bindings_in, Lists}
use Rattle.substitution.proofs.Keys.{bindings_none}
use Rattle.substitution.proofs.Chains.{chain_none}
use Rattle.substitution.proofs.Listing.{lists_same, lists_push}
use Rattle.sheet.specs.Lines.{value_at}
use Rattle.sheet.specs.Pairs.{two_lines_at}
use Rattle.sheet.specs.declared.Place.{Place}
use Rattle.sheet.specs.declared.Read.{Read}
use Rattle.sheet.specs.declared.Sides.{Sides}
use Rattle.forms.specs.Members.{members_at, Walks}
use Rattle.forms.specs.Form.{Inside}
use Rattle.forms.proofs.PairLaws.{walk_starts, walk_turn}
use Rattle.forms.proofs.Located.{entry_located}
use Rattle.variants.specs.Members.{nameable, binding_before, entry_end, DistinctEntries, MemberThere}
use Rattle.variants.specs.Areas.{UnreadEntries, UnreadMember, ReadEntryIn, ReadEntriesIn, ReadMemberIn}
use Rattle.variants.proofs.NameLaws.{part_some, nameable_some, nameable_plain}
use Rattle.variants.proofs.EntryLaws.{part_size, with_size, walk_unread, walk_all, member_placed, text_none, values_none, member_read, member_entries}
use Rattle.variants.proofs.Lookups.{Turned, turned_none, turned_more, turned_alike, bound_before, bindings_with, chain_with, entries_last}

-- ---- one entry

-- a key that a variable can have is a name
pub key_spelled : (a : Area) (key : Place) → Inside a.sheet.now key → length a.sheet.now ≤ 65536 → nameable (text_in a key) ≡ true → Spelled a.sheet.now key
key_spelled a key h small e = record {
  some = (let s = part_some (key.to - key.from) (drop key.from a.sheet.now) (nameable_some (text_in a key) e) in omega arith);
  inside = omega (arith, h.1);
  start = omega (arith, h);
  short = omega (arith, h);
  plain = nameable_plain (text_in a key) e;
}

-- a key that no variable can have is left out, another is put before its value
module _ {a : Area} (key : Place) (value : ℕ) {list : ℕ} (q : list < a.free) where
  pub key_out : nameable (text_in a key) ≡ false → Lists a a list (binding_before (text_in a key) (tree_in a value) (trees_in a list))
  unfolding binding_before
  key_out e = rw e (lists_same a list q)

  pub key_in : {m b : Area} {rest i : ℕ} → nameable (text_in a key) ≡ true → Pushes a m rest list (tree_in a value) → Pushes m b i rest (variable (text_in m key))
      → Lists a b i (binding_before (text_in a key) (tree_in a value) (trees_in a list))
  unfolding binding_before
  key_in {m} {b} {rest} {i} e x y =
      rw e (subst (λ (n : Text). Lists a b i (more (variable n) (more (tree_in a value) (trees_in a list)))) (text_lent key x.lent) (lists_push (lists_push (lists_same a list q) x) y))

pub entry_unread : {a b : Area} (e : Sides) → UnreadIn a b e.right → (parse (text_in a e.right) ≡ None) × Grows a b
entry_unread e h = (h.unread, unread_grows h)

pub entry_there : {a m b : Area} (e : Sides) {list value i : ℕ} → list < a.free → Reads a m e.right value → Lists m b i (binding_before (text_in m e.left) (tree_in m value) (trees_in m list)) → b.free ≤ m.free + 2
    → ReadEntryIn a b e list i
entry_there {a} {m} e {list} {value} q one l u = record {
  tree = tree_in m value;
  read = one.reads;
  grows = grows_then (reads_grows one) (adds_grows l.adds);
  used = omega (arith, one.room);
  inside = l.inside;
  trees = l.trees ∙ ap₂ (λ (x : Text) (ts : Trees). binding_before x (tree_in m value) ts) (text_lent e.left one.lent) (grows_trees (reads_grows one) list q);
}

-- ---- the walk over the entries of a, from `at` on: b holds those up to c, the last first

pub record EnteringIn (a : Area) (at : ℕ) (b : Area) (c list : ℕ) : Type 0 where
  pub walk : Walks (bytes "key=") (bytes "value=") a.sheet.now at c
  pub ds : List Binding
  pub read : every (map read_entry walk.es) ≡ Some ds
  pub turned : Turned walk.es (bindings_in b list) ds
  pub chain : Chain (trees_in b list)
  pub grows : Grows a b
  pub used : b.free ≤ a.free + 2 * (c - at)
  pub light : sizes (trees_in b list) ≤ c - at
  pub inside : list < b.free
  pub within : c ≤ length b.sheet.now

pub entering_starts : (a : Area) (at : ℕ) → at ≤ length a.sheet.now → EnteringIn a at a at 0
unfolding walk_starts every size
entering_starts a at p = record {
  walk = walk_starts (bytes "key=") (bytes "value=") a.sheet.now at;
  ds = [];
  read = refl;
  turned = rw (bindings_none a.sheet.now a.work.now 0 refl) turned_none;
  chain = rw (list_none a 0 refl) chain_none;
  grows = grows_same a;
  used = omega arith;
  light = omega (arith, ap sizes (list_none a 0 refl));
  inside = a.arena.links.some;
  within = p;
}

module _ {a b : Area} {at c list : ℕ} (h : EnteringIn a at b c list) where
  pub entering_ends : DistinctEntries a.sheet.now at → None ≡ two_lines_at (bytes "key=") (bytes "value=") b.sheet.now c → ReadEntriesIn a b at record { value = list; next = record { at = c } }
  entering_ends d e =
      let stops = subst (λ s. None ≡ two_lines_at (bytes "key=") (bytes "value=") s.now c) h.grows.lent.sheet e in
      record {
        walk = h.walk;
        stops = stops;
        bs = h.ds;
        read = h.read;
        alike = turned_alike h.turned (ap (λ (es : List Entry). distinct_keys es []) (sym (walk_all a.sheet.now h.walk stops d.are).0) ∙ d.distinct);
        chain = h.chain;
        grows = h.grows;
        used = h.used;
        light = h.light;
        inside = h.inside;
      }

  module _ (two : Read Sides) (e : Some two ≡ two_lines_at (bytes "key=") (bytes "value=") b.sheet.now c) where
    here : Some two ≡ two_lines_at (bytes "key=") (bytes "value=") a.sheet.now c
    here = subst (λ s. Some two ≡ two_lines_at (bytes "key=") (bytes "value=") s.now c) h.grows.lent.sheet e

    pub entering_inside : Inside b.sheet.now two.value.left × Inside b.sheet.now two.value.right × (list < b.free)
    entering_inside = let x = entry_located b.sheet.now c two e in (x.left, x.right, h.inside)

    pub entering_room : entry_end b.free two.value.right ≤ texts_end_in a at
    entering_room = let x = entry_located b.sheet.now c two e in omega (arith, h.used, h.walk.low, x.next, x.within, sheet_length h.grows.lent)

    pub entering_unread : {d : Area} → (parse (text_in b two.value.right) ≡ None) × Grows b d
        → UnreadEntries a.sheet.now at × Grows a d
    entering_unread x = (walk_unread a.sheet.now h.walk two here (ap parse (sym (text_lent two.value.right h.grows.lent)) ∙ x.0), grows_then h.grows x.1)

    pub entering_turn : {d : Area} {i : ℕ} → ReadEntryIn b d two.value list i → EnteringIn a at d two.next.at i
    unfolding walk_turn
    entering_turn {d} {i} x =
        let y = entry_located b.sheet.now c two e in
        let key = text_in a two.value.left in
        let k = text_lent two.value.left h.grows.lent in
        let r = ap parse (sym (text_lent two.value.right h.grows.lent)) ∙ x.read in
        let ts : trees_in d i ≡ binding_before key x.tree (trees_in b list) = x.trees ∙ ap (λ (n : Text). binding_before n x.tree (trees_in b list)) k in
        let bs : bindings_in d i ≡ bound_before key x.tree (bindings_in b list) = ap bindings_of ts ∙ bindings_with key x.tree (trees_in b list) in
        record {
          walk = walk_turn (bytes "key=") (bytes "value=") a.sheet.now at h.walk here;
          ds = h.ds ++ ((key, x.tree) ∷ []);
          read = entries_last h.walk.es h.ds key (text_in a two.value.right) x.tree h.read r;
          turned = rw bs (turned_more key (text_in a two.value.right) x.tree h.turned);
          chain = rw ts (chain_with key x.tree (trees_in b list) h.chain);
          grows = grows_then h.grows x.grows;
          used = omega (arith, h.used, x.used, y.next, h.walk.low);
          light = omega (arith, ap sizes ts, with_size key x.tree (trees_in b list), part_size a.sheet.now two.value.right.from two.value.right.to x.tree r, h.light, y.next, h.walk.low);
          inside = x.inside;
          within = omega (arith, y.within, sheet_length x.grows.lent);
        }

-- ---- a member

module _ {a : Area} (at : ℕ) (line : Read Place) (e : Some line ≡ value_at a.sheet.now (bytes "member=") at) where
  pub text_unread : {b : Area} → UnreadIn a b line.value → UnreadMember a.sheet.now at × Grows a b
  text_unread h = (text_none a.sheet.now at line e h.unread, unread_grows h)

  module _ {m : Area} {value : ℕ} (one : Reads a m line.value value) where
    pub entries_next : MemberThere a.sheet.now at → DistinctEntries m.sheet.now line.next.at
    entries_next h = subst (λ s. DistinctEntries s.now line.next.at) (sym one.lent.sheet) (member_entries a.sheet.now at line e h)

    pub values_unread : {b : Area} → UnreadEntries m.sheet.now line.next.at × Grows m b → UnreadMember a.sheet.now at × Grows a b
    values_unread x =
        (values_none a.sheet.now at line e (subst (λ s. UnreadEntries s.now line.next.at) one.lent.sheet x.0), grows_then (reads_grows one) x.1)

    pub member_there : {b : Area} {r : Read ℕ} → ReadEntriesIn m b line.next.at r → ReadMemberIn a b at record { value = value; bindings = r.value; next = r.next }
    member_there {b} {r} x =
        let p = member_placed a.sheet.now at line e in
        let g = grows_then (reads_grows one) x.grows in
        let t : parse (text_in a line.value) ≡ Some (tree_in b value) = one.reads ∙ ap Some (sym (grows_tree x.grows value one.placed.1 one.placed.0)) in
        let f = subst (λ s. Some line ≡ value_at s.now (bytes "member=") at) (sym one.lent.sheet) e in
        record {
          grows = g;
          reads = λ n ms h.
              let z = member_read m.sheet.now at line f x.walk x.stops (ap parse (text_lent line.value one.lent) ∙ t) x.read n ms (subst (λ s. members_at s.now at ≡ Some (n ∷ ms)) (sym one.lent.sheet) h) in
              record { bs = x.bs; read = z.0; alike = x.alike; later = subst (λ s. members_at s.now r.next.at ≡ Some ms) (sym x.grows.lent.sheet) z.1 };
          small = reads_within (text_in a line.value) (tree_in b value) t;
          chain = x.chain;
          used = omega (arith, one.room, x.used, x.walk.low, p);
          light = omega (arith, part_size a.sheet.now line.value.from line.value.to (tree_in b value) t, x.light, x.walk.low, p);
          placed = (one.placed.0, omega (arith, one.placed.1, x.grows.grew));
          inside = x.inside;
          onward = omega (arith, x.walk.low, p);
          within = omega (arith, x.walk.high (omega (arith, p, sheet_length one.lent)), sheet_length x.grows.lent);
        }
