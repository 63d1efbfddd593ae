-- The two nested rounds of the term reader: their invariants and turns.
use Prim.Native.Nat.{ℕ, zero, suc, ◌+◌, ◌*◌, ◌-◌, ◌<◌, ◌≤◌}
use native.Mathlib.Omega.{arith}
use mathlib.Core.Path.{◌≡◌, refl, sym, ap, ◌∙◌, subst}
use mathlib.Core.List.{List}
use Rattle.std.specs.Prelude.{Some, None}
use lib.ListN.{length, get_or, take, drop, set}
use lib.Seq.{get_or-set_same}
use Rattle.rules.specs.Bytes.{Text}
use Rattle.rules.specs.Tree.{Tree, Trees, none, more, size}
use Rattle.rules.specs.Reading.{leaf, single, parse}
use Rattle.text.proofs.Slices.{drop_take}
use Rattle.laws.proofs.Reading.Colons.{leaf_size}
use Rattle.sheet.specs.declared.Place.{Place}
use Rattle.syntax.specs.Next.{next_symbol}
use Rattle.syntax.specs.declared.symbols.Symbol.{Symbol}
use Rattle.syntax.specs.declared.symbols.Symbol.TheVariants.{Begin, Shut, Comma, Name, Stop}
use Rattle.tree.specs.Cells.{part, next_of, tree_at, trees_at}
use Rattle.tree.specs.Arena.{Links, Arena}
use Rattle.tree.proofs.Decoding.{trees_none, trees_more}
use Rattle.tree.proofs.Areas.{arena_below, below_set}
use Rattle.closing.specs.Machine.{Stack, bottom, level, add, wants, named, has, machine_reading, Bare, HasOne, closing_room}
use Rattle.text.specs.Frames.{Outside}
use Rattle.text.proofs.Frames.{outside_same, outside_on, outside_set}
use Rattle.closing.specs.Words.{stack_at, Held, Added, Opened}
use Rattle.closing.specs.Closing.{most, NoTree, closed_level}
use Rattle.reading.specs.Parsing.{limit_of, stack_end}
use Rattle.reading.proofs.Grammar.{reads}
use Rattle.closing.proofs.Turns.{limited, name_turn, open_turn, comma_turn, shut_turn, comma_bare, shut_bare, stop_turn, not_name, no_delimiter, leaf_turn, no_symbol, shut_out, small_enough, parse_limited}
use Rattle.reading.proofs.Stacks.{stack_top}
use Rattle.reading.proofs.NamePlaces.{NameAt, mark_past}

-- On stacks

add_weight : (t : Tree) (k : Stack) → closing_room (add t k) ≤ closing_room k + 2
add_weight t (bottom ts) = omega arith
add_weight t (level n ts k) = omega arith

add_has : (t : Tree) (k : Stack) → Bare k → size t ≤ 4096 → HasOne (add t k)
add_has t (bottom ts) b h = (t, ap (more t) b, h)
add_has t (level n ts k) b h = b

-- the text from a position to another reads as the tree of a cell
pub record Read (s : Text) (w v : List ℕ) (start from to index free : ℕ) : Type 0 where
  pub reads : parse (part s from (to - from)) ≡ Some (tree_at s v index)
  pub link : next_of v index ≡ 0
  pub placed : (0 < index) × (index < free)
  pub arena : Arena s v free
  pub grew : start ≤ free
  pub room : free ≤ limit_of start from to
  pub outside : Outside w v (4 * start) (stack_end start from to)

-- what the reader is given
pub record Task (s : Text) (start limit from to : ℕ) : Type 0 where
  pub limit_is : limit ≡ limit_of start from to
  pub order : from ≤ to
  pub within : to ≤ length s
  pub small : length s ≤ 65536
  pub short : to < from + 65536

-- where it is: v is the area at a round's start, w now
pub record Stands (s : Text) (v : List ℕ) (start limit from to : ℕ) (w : List ℕ) (free depth at : ℕ) : Type 0 where
  pub held : Held s w free limit depth
  pub outside : Outside v w (4 * start) (stack_end start from to)
  pub starts : start ≤ free
  pub after : from ≤ at
  pub within : at ≤ to
  pub deep : depth + from ≤ at

-- a term is wanted
pub record Wants (s : Text) (v : List ℕ) (start limit from to : ℕ) (w : List ℕ) (free depth at : ℕ) : Type 0 where
  pub stands : Stands s v start limit from to w free depth at
  pub bare : Bare (stack_at s w limit depth)
  pub room : free + closing_room (stack_at s w limit depth) + 2 * from ≤ start + 2 * at
  pub reads : limited (machine_reading (take to s) at (wants (stack_at s w limit depth))) ≡ parse (part s from (to - from))

-- a term is there, read since the position v-at
pub record Has (s : Text) (v : List ℕ) (start limit from to v_at : ℕ) (w : List ℕ) (free depth at : ℕ) : Type 0 where
  pub stands : Stands s v start limit from to w free depth at
  pub past : v_at ≤ at
  pub one : HasOne (stack_at s w limit depth)
  pub room : free + closing_room (stack_at s w limit depth) + 2 * from ≤ start + 2 * at + 1
  pub reads : limited (machine_reading (take to s) at (has (stack_at s w limit depth))) ≡ parse (part s from (to - from))

-- the top level, where there is one
pub top_level : (s : Text) (w : List ℕ) (limit depth : ℕ) → (depth ≡ 0 → ⊥)
    → stack_at s w limit depth
    ≡ level (part s (get_or w (4 * limit + 3 * (depth - 1) + 1) 0) (get_or w (4 * limit + 3 * (depth - 1) + 2) 0)) (trees_at s w (get_or w (4 * limit + 3 * (depth - 1) + 3) 0)) (stack_at s w limit (depth - 1))
top_level s w limit depth p = let z : depth - 1 + 1 ≡ depth = omega arith in sym (ap (stack_at s w limit) z) ∙ stack_top s w limit (depth - 1)

module _ {s : Text} {start limit from to : ℕ} (k : Task s start limit from to) where
  pub wants_start : {w : List ℕ} → Arena s w start → get_or w (4 * limit) 0 ≡ 0 → stack_end start from to ≤ length w → Wants s w start limit from to w start 0 from
  unfolding stack_at
  wants_start {w} a e room =
      let o = k.order in
      let l = k.limit_is in
      let b : trees_at s w (get_or w (4 * limit) 0) ≡ none = trees_none s w (get_or w (4 * limit) 0) e in
      record {
        stands = record {
          held = record {
            arena = a;
            below = omega arith;
            room = omega arith;
            trees = λ i q. (
                let z : 4 * limit + 3 * i ≡ 4 * limit = omega arith in
                rw (z, e) a.links.some);
            names = λ i q. absurd (omega arith);
          };
          outside = outside_same w (4 * start) (stack_end start from to);
          starts = omega arith;
          after = omega arith;
          within = o;
          deep = omega arith;
        };
        bare = b;
        room = omega arith;
        reads =
            ap (λ (ts : Trees). limited (machine_reading (take to s) from (wants (bottom ts)))) b
            ∙ ap limited (reads (drop from (take to s)))
            ∙ sym (parse_limited (drop from (take to s)))
            ∙ ap parse (drop_take from to s);
      }

  module _ {v w : List ℕ} {free depth at : ℕ} (h : Wants s v start limit from to w free depth at) where
    -- no name
    pub wants_out : {r : Symbol} → Some r ≡ next_symbol (take to s) at → ((p : Place) → r ≡ Name p → ⊥) → parse (part s from (to - from)) ≡ None
    wants_out f o = sym h.reads ∙ ap limited (not_name (take to s) at f (stack_at s w limit depth) o)

    -- no symbol
    pub wants_unread : None ≡ next_symbol (take to s) at → parse (part s from (to - from)) ≡ None
    wants_unread f = sym h.reads ∙ ap limited (no_symbol (take to s) at (wants (stack_at s w limit depth)) f)

    module _ {name : Place} (n : NameAt s to at name.from name.to) {r : Symbol} (f : Some r ≡ next_symbol (take to s) at) (g : r ≡ Name name) where
      read_name : limited (machine_reading (take to s) name.to (named (part s name.from (name.to - name.from)) (stack_at s w limit depth))) ≡ parse (part s from (to - from))
      read_name =
          ap (λ (m : Text). limited (machine_reading (take to s) name.to (named m (stack_at s w limit depth)))) (sym n.bytes)
          ∙ sym (ap limited (name_turn (take to s) at f name (stack_at s w limit depth) g))
          ∙ h.reads

      pub named_unread : None ≡ next_symbol (take to s) name.to → parse (part s from (to - from)) ≡ None
      named_unread j = sym read_name ∙ ap limited (no_symbol (take to s) name.to (named (part s name.from (name.to - name.from)) (stack_at s w limit depth)) j)

      -- a list is opened
      pub wants_open : {u : List ℕ} {i : ℕ} {q : Symbol} → Some q ≡ next_symbol (take to s) name.to → q ≡ Begin i → Opened s w u free limit depth (part s name.from (name.to - name.from)) → Wants s v start limit from to u free (depth + 1) i
      wants_open {u} {i} {q} j b x =
          let st = h.stands in
          let p = mark_past s name.to to k.within j i (Begin i) b refl in
          let pa = n.past in
          let so = n.some in
          let ro = h.room in
          let li = k.limit_is in
          let de = st.deep in
          let en : 4 * limit + 3 * depth + 4 ≤ stack_end start from to = omega (arith, st.after) in
          let we : closing_room (stack_at s u limit (depth + 1)) ≡ 2 + closing_room (stack_at s w limit depth) = ap closing_room x.stack in
          record {
            stands = record {
              held = x.held;
              outside = outside_on (omega (arith, st.starts)) en st.outside x.outside;
              starts = st.starts;
              after = omega (arith, st.after);
              within = p.1;
              deep = omega arith;
            };
            bare = rw x.stack h.bare;
            room = omega arith;
            reads =
                ap (λ (y : Stack). limited (machine_reading (take to s) i (wants y))) x.stack
                ∙ sym (ap limited (open_turn (take to s) name.to j i (part s name.from (name.to - name.from)) (stack_at s w limit depth) b))
                ∙ read_name;
          }

      -- a leaf is there
      pub has_leaf : {u : List ℕ} {end : ℕ} {q : Symbol} → Some q ≡ next_symbol (take to s) name.to → ((t : ℕ) → q ≡ Begin t → ⊥) → end ≡ free + 1
          → Added s w u free end limit depth (leaf (part s name.from (name.to - name.from))) → Has s u start limit from to name.to u end depth name.to
      has_leaf {u} {end} {q} j o z x =
          let st = h.stands in
          let pa = n.past in
          let so = n.some in
          let ro = h.room in
          let de = st.deep in
          let we = ap closing_room x.stack in
          record {
            stands = record {
              held = x.held;
              outside = outside_same u (4 * start) (stack_end start from to);
              starts = omega (arith, st.starts);
              after = omega (arith, st.after);
              within = n.within;
              deep = omega arith;
            };
            past = omega arith;
            one = rw x.stack (add_has (leaf (part s name.from (name.to - name.from))) (stack_at s w limit depth) h.bare (omega (arith, leaf_size (part s name.from (name.to - name.from)))));
            room = omega (arith, add_weight (leaf (part s name.from (name.to - name.from))) (stack_at s w limit depth));
            reads =
                ap (λ (y : Stack). limited (machine_reading (take to s) name.to (has y))) x.stack
                ∙ sym (ap limited (leaf_turn (take to s) name.to j (part s name.from (name.to - name.from)) (stack_at s w limit depth) o))
                ∙ read_name;
          }

  pub has_unread : {v w : List ℕ} {v_at free depth at : ℕ} → Has s v start limit from to v_at w free depth at → None ≡ next_symbol (take to s) at → parse (part s from (to - from)) ≡ None
  has_unread {v} {w} {v_at} {free} {depth} {at} h f = sym h.reads ∙ ap limited (no_symbol (take to s) at (has (stack_at s w limit depth)) f)

  module _ {v w : List ℕ} {v_at free depth at : ℕ} (h : Has s v start limit from to v_at w free depth at) {r : Symbol} (f : Some r ≡ next_symbol (take to s) at) where
    -- no delimiter
    pub has_out : (r ≡ Stop → ⊥) → ((t : ℕ) → r ≡ Comma t → ⊥) → ((t : ℕ) → r ≡ Shut t → ⊥) → parse (part s from (to - from)) ≡ None
    has_out no_stop no_comma no_shut = sym h.reads ∙ ap limited (no_delimiter (take to s) at f (stack_at s w limit depth) no_stop no_comma no_shut)

    bare_bottom : depth ≡ 0 → stack_at s w limit depth ≡ bottom (trees_at s w (get_or w (4 * limit) 0))
    unfolding stack_at
    bare_bottom e = ap (stack_at s w limit) e

    pub comma_out : (t : ℕ) → depth ≡ 0 → r ≡ Comma t → parse (part s from (to - from)) ≡ None
    comma_out t e g =
        sym h.reads ∙ ap (λ (y : Stack). limited (machine_reading (take to s) at (has y))) (bare_bottom e) ∙ ap limited (comma_bare (take to s) at f t (trees_at s w (get_or w (4 * limit) 0)) g)

    pub shut_alone : (t : ℕ) → depth ≡ 0 → r ≡ Shut t → parse (part s from (to - from)) ≡ None
    shut_alone t e g =
        sym h.reads ∙ ap (λ (y : Stack). limited (machine_reading (take to s) at (has y))) (bare_bottom e) ∙ ap limited (shut_bare (take to s) at f t (trees_at s w (get_or w (4 * limit) 0)) g)

    -- the end
    pub stop_out : (depth ≡ 0 → ⊥) → r ≡ Stop → parse (part s from (to - from)) ≡ None
    stop_out e g =
        sym h.reads ∙ ap (λ (y : Stack). limited (machine_reading (take to s) at (has y))) (top_level s w limit depth e) ∙ ap limited (stop_turn (take to s) at f (has (level _ _ _)) g)

    pub stop_in : {x : List ℕ} {index : ℕ} → depth ≡ 0 → r ≡ Stop → index ≡ get_or w (4 * limit) 0 → Outside x w (4 * start) (stack_end start from to) → Read s x w start from to index free
    stop_in {x} {index} e g i o =
        let st = h.stands in
        let b = bare_bottom e in
        let one = rw b at h.one in
        let t = one.0 in
        let z : 4 * limit + 3 * depth ≡ 4 * limit = omega arith in
        let q = rw z at (st.held.trees depth (omega arith)) in
        let ts : trees_at s w index ≡ more t none = ap (trees_at s w) i ∙ one.1 in
        let l = st.held.arena.links in
        let p = some_cell index t ts in
        let m = trees_more s l index p (omega arith) in
        let tt : tree_at s w index ≡ t = (let y = sym m ∙ ts in cc) in
        record {
          reads =
              sym h.reads ∙ ap (λ (y : Stack). limited (machine_reading (take to s) at (has y))) b ∙ ap limited (stop_turn (take to s) at f (has (bottom (trees_at s w (get_or w (4 * limit) 0)))) g)
              ∙ ap (λ (y : Trees). limited (single y)) one.1 ∙ small_enough t one.2 ∙ ap Some (sym tt);
          link = no_cell l (next_of w index) (omega (arith, l.next index p (omega arith))) (let y = sym m ∙ ts in cc);
          placed = (p, omega arith);
          arena = st.held.arena;
          grew = st.starts;
          room = omega (arith, st.held.below, k.limit_is);
          outside = o;
        }
      where
        some_cell : (i : ℕ) (t : Tree) → trees_at s w i ≡ more t none → 0 < i
        some_cell zero t e = (let y = sym (trees_none s w 0 refl) ∙ e in let z : ◌≡◌ {A = ℕ} 0 1 = cc in absurd (omega arith))
        some_cell (suc i) t e = omega arith

        no_cell : {n : ℕ} → Links w n → (i : ℕ) → i < n → trees_at s w i ≡ none → i ≡ 0
        no_cell l zero p e = refl
        no_cell l (suc i) p e = (let y = sym (trees_more s l (suc i) (omega arith) p) ∙ e in let z : ◌≡◌ {A = ℕ} 0 1 = cc in absurd (omega arith))

    -- a comma: a term is wanted again
    pub has_comma : {x : List ℕ} (t : ℕ) → (depth ≡ 0 → ⊥) → r ≡ Comma t → Outside x w (4 * start) (stack_end start from to) → Wants s x start limit from to w free depth t
    has_comma {x} t e g o =
        let st = h.stands in
        let lv = top_level s w limit depth e in
        let p = mark_past s at to k.within f t (Comma t) g refl in
        record {
          stands = record {
            held = st.held;
            outside = o;
            starts = st.starts;
            after = omega (arith, st.after);
            within = p.1;
            deep = omega (arith, st.deep);
          };
          bare = subst Bare (sym lv) (subst HasOne lv h.one);
          room = omega (arith, h.room);
          reads =
              ap (λ (y : Stack). limited (machine_reading (take to s) t (wants y))) lv
              ∙ sym (ap limited (comma_turn (take to s) at f t _ _ (stack_at s w limit (depth - 1)) g))
              ∙ sym (ap (λ (y : Stack). limited (machine_reading (take to s) at (has y))) lv)
              ∙ h.reads;
        }

    -- a list is closed
    pub has_shut : {u : List ℕ} {m : ℕ} (t : ℕ) → (depth ≡ 0 → ⊥) → r ≡ Shut t → (x : Tree) → closed_level s w limit (depth - 1) ≡ Some x → size x ≤ 4096 → free ≤ m → m ≤ most s w free (get_or w (4 * limit + 3 * (depth - 1) + 3) 0)
        → Added s w u free m limit (depth - 1) x → Has s v start limit from to v_at u m (depth - 1) t
    has_shut {u} {m} t e g x xi xs gr xr y =
        let st = h.stands in
        let lv = top_level s w limit depth e in
        let p = mark_past s at to k.within f t (Shut t) g refl in
        let ro = h.room in
        let af = st.after in
        let de = st.deep in
        let ss = st.starts in
        let li = k.limit_is in
        let wl = ap closing_room lv in
        let wu = ap closing_room y.stack in
        record {
          stands = record {
            held = y.held;
            outside = outside_on (omega arith) (omega arith) st.outside y.outside;
            starts = omega arith;
            after = omega arith;
            within = p.1;
            deep = omega arith;
          };
          past = omega (arith, h.past);
          one = rw y.stack (add_has x (stack_at s w limit (depth - 1)) (subst HasOne lv h.one) xs);
          room = omega (arith, add_weight x (stack_at s w limit (depth - 1)));
          reads =
              ap (λ (y : Stack). limited (machine_reading (take to s) t (has y))) y.stack
              ∙ sym (ap limited (shut_turn (take to s) at f t _ _ (stack_at s w limit (depth - 1)) x g xi))
              ∙ sym (ap (λ (y : Stack). limited (machine_reading (take to s) at (has y))) lv)
              ∙ h.reads;
        }

    pub shut_refused : (t : ℕ) → (depth ≡ 0 → ⊥) → r ≡ Shut t → NoTree (closed_level s w limit (depth - 1)) → parse (part s from (to - from)) ≡ None
    shut_refused t e g x =
        sym h.reads ∙ ap (λ (y : Stack). limited (machine_reading (take to s) at (has y))) (top_level s w limit depth e) ∙ shut_out (take to s) at f t _ _ (stack_at s w limit (depth - 1)) g x

    -- room to close the top level
    pub shut_room : (t : ℕ) → (depth ≡ 0 → ⊥) → r ≡ Shut t → most s w free (get_or w (4 * limit + 3 * (depth - 1) + 3) 0) ≤ limit
    shut_room t e g =
        let st = h.stands in
        let p = mark_past s at to k.within f t (Shut t) g refl in
        let wl = ap closing_room (top_level s w limit depth e) in
        omega (arith, h.room, st.after, k.limit_is)

pub task : (s : Text) {start limit from to : ℕ} → limit ≡ limit_of start from to → from ≤ to → to ≤ length s → length s ≤ 65536 → to < from + 65536 → Task s start limit from to
task s a b c d e = record { limit_is = a; order = b; within = c; small = d; short = e }

-- what the inner round changed, and the outer before it
pub outside_inner : {s : Text} {start limit from to : ℕ} {v w u x : List ℕ} {free depth at end : ℕ} {t : Tree} → Task s start limit from to → Wants s v start limit from to w free depth at
    → Added s w u free end limit depth t → Outside u x (4 * start) (stack_end start from to) → Outside v x (4 * start) (stack_end start from to)
outside_inner k h y o =
    let st = h.stands in
    outside_on (omega arith) (omega arith) (outside_on (omega (arith, st.starts)) (omega (arith, k.limit_is, st.deep, st.within, st.after)) st.outside y.outside) o

-- The word of the bottom is set before the rounds

module _ {s : Text} {w : List ℕ} {free : ℕ} (from to : ℕ) (a : Arena s w free) (room : stack_end free from to ≤ length w) where
  pub bottom_arena : Arena s (set w (4 * limit_of free from to) 0) free
  bottom_arena = arena_below a (below_set w free (4 * limit_of free from to) 0 (omega arith))

  pub bottom_word : get_or (set w (4 * limit_of free from to) 0) (4 * limit_of free from to) 0 ≡ 0
  bottom_word = get_or-set_same w (4 * limit_of free from to) 0 0 (omega arith)

  pub bottom_outside : Outside w (set w (4 * limit_of free from to) 0) (4 * free) (stack_end free from to)
  bottom_outside = outside_set (4 * limit_of free from to) 0 (omega arith) (omega arith) (outside_same w (4 * free) (stack_end free from to))
