-- The two nested rounds of the term reader over an area: their invariants and turns.
use Prim.Native.Nat.{ℕ, zero, suc, ◌+◌, ◌*◌, ◌-◌, ◌<◌, ◌≤◌}
use native.Mathlib.Omega.{arith}
use mathlib.Core.Path.{◌≡◌, refl, sym, ap, ◌∙◌, subst}
use lib.ListN.{length, get_or, take}
use Rattle.std.specs.Prelude.{Option, Some, None}
use Rattle.rules.specs.Reading.{leaf, parse}
use Rattle.sheet.specs.declared.Place.{Place}
use Rattle.syntax.specs.Next.{next_symbol}
use Rattle.syntax.specs.declared.symbols.Symbol.{Symbol}
use Rattle.syntax.specs.declared.symbols.Symbol.TheVariants.{Begin, Shut, Comma, Name, Stop}
use Rattle.text.specs.Frames.{Outside}
use Rattle.tree.specs.declared.area.Area.{Area}
use Rattle.tree.specs.Cells.{part, tree_at}
use Rattle.tree.specs.Areas.{Lent}
use Rattle.tree.specs.Spelled.{text_in, Spelled}
use Rattle.tree.specs.Arena.{Arena}
use Rattle.tree.specs.Words.{Writes}
use Rattle.text.proofs.Frames.{outside_same, outside_on}
use Rattle.tree.proofs.Areas.{arena_below, outside_below}
use Rattle.tree.proofs.Keeping.{lent_then}
use Rattle.tree.proofs.Spelling.{text_lent}
use Rattle.closing.specs.Words.{Added, Opened}
use Rattle.closing.specs.Closing.{most, NoTree, closed_level}
use Rattle.reading.specs.Parsing.{limit_of, stack_end}
use Rattle.reading.specs.Stacks.{HeldIn, AddsTo, OpensOn, ClosedOn, ClosesOn, bottom_of, ReadsUp}
use Rattle.reading.specs.declared.stack.Stack.{Stack}
use Rattle.reading.proofs.NamePlaces.{NameAt, name_at_place, mark_past}
use Rattle.reading.proofs.Rounds.{Task, task, Wants, Has, wants_start, wants_out, wants_unread, named_unread, has_unread, wants_open, has_leaf, has_out, comma_out, shut_alone, stop_out, stop_in, has_comma, has_shut, shut_refused, shut_room, outside_inner, bottom_word, bottom_outside}
use Rattle.reading.proofs.StacksIn.{held_in}

-- a term of the text at p is wanted: a is the area at the start, b now
pub record WantsIn (a : Area) (p : Place) (b : Area) (k : Stack) (at : ℕ) : Type 0 where
  pub lent : Lent a b
  pub task : Task a.sheet.now a.free k.limit p.from p.to
  pub wants : Wants a.sheet.now a.work.now a.free k.limit p.from p.to b.work.now b.free k.depth at

-- a term is there, read since the position v_at
pub record HasIn (a : Area) (p : Place) (v_at : ℕ) (b : Area) (k : Stack) (at : ℕ) : Type 0 where
  pub lent : Lent a b
  pub task : Task a.sheet.now a.free k.limit p.from p.to
  pub has : Has a.sheet.now a.work.now a.free k.limit p.from p.to v_at b.work.now b.free k.depth at

-- a symbol of the sheet that both were lent
symbol_of : {a b : Area} → Lent a b → (to at : ℕ) {r : Option Symbol} → r ≡ next_symbol (take to b.sheet.now) at → r ≡ next_symbol (take to a.sheet.now) at
symbol_of l to at {r} f = subst (λ s. r ≡ next_symbol (take to s.now) at) l.sheet f

pub wants_starts : {a : Area} {p : Place} {limit : ℕ} → limit ≡ limit_of a.free p.from p.to → get_or a.work.now (4 * limit) 0 ≡ 0 → p.from ≤ p.to → p.to ≤ length a.sheet.now → length a.sheet.now ≤ 65536 → p.to < p.from + 65536
    → stack_end a.free p.from p.to ≤ length a.work.now → WantsIn a p a record { limit = limit; depth = 0 } p.from
wants_starts {a} l e o w s h room =
    let k = task a.sheet.now l o w s h in
    record { lent = record { work = refl; sheet = refl }; task = k; wants = wants_start k a.arena e room }

module _ {a b : Area} {p : Place} {k : Stack} {at : ℕ} (h : WantsIn a p b k at) where
  pub wants_held : HeldIn b k.limit k.depth
  wants_held = held_in h.lent h.wants.stands.held

  pub wants_ends : None ≡ next_symbol (take p.to b.sheet.now) at → ReadsUp a b p None
  wants_ends f = (wants_unread h.task h.wants (symbol_of h.lent p.to at f), h.lent, h.wants.stands.outside, h.wants.stands.starts)

  module _ {r : Symbol} (f : Some r ≡ next_symbol (take p.to b.sheet.now) at) where
    -- no name
    pub wants_none : ((p : Place) → r ≡ Name p → ⊥) → ReadsUp a b p None
    wants_none o = (wants_out h.task h.wants (symbol_of h.lent p.to at f) o, h.lent, h.wants.stands.outside, h.wants.stands.starts)

    module _ {name : Place} (g : r ≡ Name name) where
      pub name_at : NameAt a.sheet.now p.to at name.from name.to
      name_at = name_at_place a.sheet.now at p.to h.task.within (symbol_of h.lent p.to at f) p.from name h.wants.stands.after h.task.short g

      pub name_spelled : Spelled b.sheet.now name
      name_spelled =
          let n = name_at in
          subst (λ s. Spelled s.now name) (sym h.lent.sheet)
          (record {
            some = n.some;
            inside = omega (arith, n.within, h.task.within);
            start = omega (arith, n.some, n.within, h.task.within, h.task.small);
            short = n.name.short;
            plain = n.name.plain;
          })

      pub name_room : stack_end a.free p.from p.to ≤ length a.work.now → 4 * k.limit + 3 * k.depth + 3 < length b.work.now
      name_room q = let n = name_at in omega (arith, h.wants.stands.outside.len, h.wants.stands.deep, n.past, n.some, n.within, h.task.limit_is)

      pub leaf_room : b.free < k.limit
      leaf_room = let n = name_at in omega (arith, h.wants.room, n.past, n.some, n.within, h.task.limit_is)

      pub named_ends : None ≡ next_symbol (take p.to b.sheet.now) name.to → ReadsUp a b p None
      named_ends j = (named_unread h.task h.wants name_at (symbol_of h.lent p.to at f) g (symbol_of h.lent p.to name.to j), h.lent, h.wants.stands.outside, h.wants.stands.starts)

      module _ {q : Symbol} (j : Some q ≡ next_symbol (take p.to b.sheet.now) name.to) where
        -- a list is opened
        pub wants_opens : {d : Area} {i : ℕ} → q ≡ Begin i → OpensOn b d k (text_in b name) → WantsIn a p d record { limit = k.limit; depth = k.depth + 1 } i
        wants_opens {d} {i} e x =
            let y = subst (λ s. Opened s.now b.work.now d.work.now b.free k.limit k.depth (part s.now name.from (name.to - name.from))) h.lent.sheet x.opened in
            record {
              lent = lent_then h.lent x.lent;
              task = h.task;
              wants = rw x.end (wants_open h.task h.wants name_at (symbol_of h.lent p.to at f) g (symbol_of h.lent p.to name.to j) e y);
            }

        pub opens_past : {i : ℕ} → q ≡ Begin i → (at < i) × (i ≤ p.to) × (k.depth + 1 ≤ p.to)
        opens_past {i} e =
            let n = name_at in
            let m = mark_past a.sheet.now name.to p.to h.task.within (symbol_of h.lent p.to name.to j) i (Begin i) e refl in
            omega (arith, n.past, n.some, n.within, m, h.wants.stands.deep)

        -- a leaf is there
        pub wants_leaf : {d : Area} → ((t : ℕ) → q ≡ Begin t → ⊥) → d.free ≡ b.free + 1 → AddsTo b d k (leaf (text_in b name)) → HasIn a p name.to d k name.to
        wants_leaf {d} o e x =
            let y = subst (λ s. Added s.now b.work.now d.work.now b.free d.free k.limit k.depth (leaf (part s.now name.from (name.to - name.from)))) h.lent.sheet x.added in
            let z = has_leaf h.task h.wants name_at (symbol_of h.lent p.to at f) g (symbol_of h.lent p.to name.to j) o e y in
            let s = z.stands in
            record {
              lent = lent_then h.lent x.lent;
              task = h.task;
              has = record {
                stands = record {
                  held = s.held;
                  outside = outside_inner h.task h.wants y (outside_same d.work.now (4 * a.free) (stack_end a.free p.from p.to));
                  starts = s.starts;
                  after = s.after;
                  within = s.within;
                  deep = s.deep;
                };
                past = z.past;
                one = z.one;
                room = z.room;
                reads = z.reads;
              };
            }

pub has_ends : {a b : Area} {p : Place} {v_at : ℕ} {k : Stack} {at : ℕ} → HasIn a p v_at b k at → None ≡ next_symbol (take p.to b.sheet.now) at → ReadsUp a b p None
has_ends {p = p} {at = at} h f = (has_unread h.task h.has (symbol_of h.lent p.to at f), h.lent, h.has.stands.outside, h.has.stands.starts)

module _ {a b : Area} {p : Place} {v_at : ℕ} {k : Stack} {at : ℕ} (h : HasIn a p v_at b k at) {r : Symbol} (f : Some r ≡ next_symbol (take p.to b.sheet.now) at) where
  here : Some r ≡ next_symbol (take p.to a.sheet.now) at
  here = symbol_of h.lent p.to at f

  -- no delimiter, or one that closes nothing
  pub has_none : (r ≡ Stop → ⊥) → ((t : ℕ) → r ≡ Comma t → ⊥) → ((t : ℕ) → r ≡ Shut t → ⊥) → ReadsUp a b p None
  has_none x y z = (has_out h.task h.has here x y z, h.lent, h.has.stands.outside, h.has.stands.starts)

  pub comma_none : (t : ℕ) → k.depth ≡ 0 → r ≡ Comma t → ReadsUp a b p None
  comma_none t e g = (comma_out h.task h.has here t e g, h.lent, h.has.stands.outside, h.has.stands.starts)

  pub shut_none : (t : ℕ) → k.depth ≡ 0 → r ≡ Shut t → ReadsUp a b p None
  shut_none t e g = (shut_alone h.task h.has here t e g, h.lent, h.has.stands.outside, h.has.stands.starts)

  -- a comma: a term is wanted again
  pub has_wants : (t : ℕ) → (k.depth ≡ 0 → ⊥) → r ≡ Comma t → WantsIn a p b k t
  has_wants t e g = record { lent = h.lent; task = h.task; wants = has_comma h.task h.has here t e g h.has.stands.outside }

  pub comma_past : (t : ℕ) → r ≡ Comma t → (v_at < t) × (t ≤ p.to)
  comma_past t g = omega (arith, mark_past a.sheet.now at p.to h.task.within here t (Comma t) g refl, h.has.past)

  -- a list is closed
  module _ (t : ℕ) (e : k.depth ≡ 0 → ⊥) (g : r ≡ Shut t) where
    pub shut_past : (at < t) × (t ≤ p.to)
    shut_past = mark_past a.sheet.now at p.to h.task.within here t (Shut t) g refl

    pub shut_held : HeldIn b k.limit (k.depth - 1 + 1)
    shut_held = let z : k.depth ≡ k.depth - 1 + 1 = omega arith in subst (HeldIn b k.limit) z (held_in h.lent h.has.stands.held)

    pub shut_fits : most b.sheet.now b.work.now b.free (get_or b.work.now (4 * k.limit + 3 * (k.depth - 1) + 3) 0) ≤ k.limit
    shut_fits = subst (λ s. most s.now b.work.now b.free (get_or b.work.now (4 * k.limit + 3 * (k.depth - 1) + 3) 0) ≤ k.limit) (sym h.lent.sheet) (shut_room h.task h.has here t e g)

    pub shut_stops : {d : Area} → ClosesOn b d record { limit = k.limit; depth = k.depth - 1 } None → ReadsUp a d p None
    shut_stops x =
        let y = subst (λ s. NoTree (closed_level s.now b.work.now k.limit (k.depth - 1))) h.lent.sheet x.0 in (
          shut_refused h.task h.has here t e g y,
          lent_then h.lent x.1,
          outside_on (omega (arith, h.has.stands.starts)) (omega (arith, h.task.limit_is)) h.has.stands.outside x.2,
          omega (arith, h.has.stands.starts, x.3),
        )

    pub shut_goes : {d : Area} → ClosedOn b d record { limit = k.limit; depth = k.depth - 1 } → HasIn a p v_at d record { limit = k.limit; depth = k.depth - 1 } t
    shut_goes {d} x =
        let i = subst (λ s. closed_level s.now b.work.now k.limit (k.depth - 1) ≡ Some x.tree) h.lent.sheet x.is in
        let m = subst (λ s. d.free ≤ most s.now b.work.now b.free (get_or b.work.now (4 * k.limit + 3 * (k.depth - 1) + 3) 0)) h.lent.sheet x.room in
        let y = subst (λ s. Added s.now b.work.now d.work.now b.free d.free k.limit (k.depth - 1) x.tree) h.lent.sheet x.adds.added in
        record {
          lent = lent_then h.lent x.adds.lent;
          task = h.task;
          has = has_shut h.task h.has here t e g x.tree i x.small (omega (arith, x.grew)) m y;
        }

-- at the end of the text
pub has_stops : {a b : Area} {p : Place} {v_at limit : ℕ} (d : ℕ) {at : ℕ} → HasIn a p v_at b record { limit = limit; depth = d } at → {r : Symbol} → Some r ≡ next_symbol (take p.to b.sheet.now) at → r ≡ Stop
    → (q : Option ℕ) → q ≡ bottom_of b.work.now limit d → ReadsUp a b p q
has_stops {a} {b} {p} {v_at} {limit} zero {at} h f g q e =
    let x = stop_in h.task h.has (symbol_of h.lent p.to at f) refl g refl h.has.stands.outside in
    let i = get_or b.work.now (4 * limit) 0 in
    subst (ReadsUp a b p) (sym e)
    (record {
      lent = h.lent;
      reads = x.reads ∙ ap (λ s. Some (tree_at s.now b.work.now i)) (sym h.lent.sheet);
      link = x.link;
      placed = x.placed;
      grew = x.grew;
      room = x.room;
      outside = x.outside;
    })
has_stops {a} {b} {p} {v_at} {limit} (suc d) {at} h f g q e =
    subst (ReadsUp a b p) (sym e) (stop_out h.task h.has (symbol_of h.lent p.to at f) (λ z. (omega arith)) g, h.lent, h.has.stands.outside, h.has.stands.starts)

-- the word of the bottom is set before the rounds
module _ {a m : Area} (p : Place) (y : Writes a m (4 * limit_of a.free p.from p.to) 0) (room : stack_end a.free p.from p.to ≤ length a.work.now) where
  pub starts_bottom : get_or m.work.now (4 * limit_of a.free p.from p.to) 0 ≡ 0
  starts_bottom = rw y.words (bottom_word p.from p.to a.arena room)

  starts_outside : Outside a.work.now m.work.now (4 * a.free) (stack_end a.free p.from p.to)
  starts_outside = rw y.words (bottom_outside p.from p.to a.arena room)

  module _ (b : Area) where
    all_outside : Outside m.work.now b.work.now (4 * m.free) (stack_end m.free p.from p.to) → Outside a.work.now b.work.now (4 * a.free) (stack_end a.free p.from p.to)
    all_outside o = outside_on (omega (arith, y.end)) (omega (arith, y.end)) starts_outside o

    all_lent : Lent m b → Lent a b
    all_lent l = lent_then y.lent l

    pub unread_from : ReadsUp m b p None → (parse (text_in a p) ≡ None) × Lent a b × Outside a.work.now b.work.now (4 * a.free) (stack_end a.free p.from p.to) × (a.free ≤ b.free)
    unread_from x = (ap parse (sym (text_lent p y.lent)) ∙ x.0, all_lent x.1, all_outside x.2, omega (arith, y.end, x.3))

-- the cells of an area where the words above them alone changed
pub cells_kept : {a b : Area} {e : ℕ} → Lent a b → Outside a.work.now b.work.now (4 * a.free) e → Arena b.sheet.now b.work.now a.free
cells_kept {a} {b} l o = subst (λ s. Arena s.now b.work.now a.free) (sym l.sheet) (arena_below a.arena (outside_below o))
