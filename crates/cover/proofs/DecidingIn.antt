-- Whether a member covers, from the match of its pairs in an area; and the loop over all members.
use Prim.Native.Nat.{ℕ, ◌<◌, ◌≤◌}
use mathlib.Core.Path.{◌≡◌, refl, sym, ap, subst, ◌∙◌}
use mathlib.Core.Bool.{Bool, true, false, not}
use mathlib.Core.List.{List, Memᴰ}
use Rattle.std.specs.Prelude.{Some, None}
use Rattle.std.specs.Bool.{then_some}
use lib.ListN.{length}
use native.Mathlib.Omega.{arith}
use Rattle.rules.specs.Bytes.{Text}
use Rattle.rules.specs.Text.{bytes}
use Rattle.rules.specs.Tree.{count}
use Rattle.rules.specs.Substitution.{Binding, Pair}
use Rattle.rules.specs.Matching.{matcher}
use Rattle.rules.specs.Sheet.{Entry, Member}
use Rattle.rules.specs.Cover.{covering, covers, any_covers}
use Rattle.tree.specs.declared.area.Area.{Area}
use Rattle.tree.specs.Areas.{trees_in, KeepsCells}
use Rattle.tree.proofs.Keeping.{grows_then, grows_keeps, grows_length, grows_trees}
use Rattle.substitution.specs.Bindings.{bindings_of}
use Rattle.substitution.specs.Areas.{bindings_in}
use Rattle.sheet.specs.Lines.{lines_at, value_at}
use Rattle.sheet.specs.declared.Cursor.{Cursor}
use Rattle.sheet.specs.declared.Place.{Place}
use Rattle.sheet.specs.declared.Read.{Read}
use Rattle.sheet.proofs.LineLaws.{keyed}
use Rattle.forms.specs.Members.{members_at, EntriesFrom, EntriesThen}
use Rattle.forms.specs.Form.{text_of}
use Rattle.forms.proofs.WalkLaws.{FirstMember, member_end, member_next, members_later}
use Rattle.unifier.specs.Matched.{Matched}
use Rattle.elimination.specs.Areas.{pairs_in}
use Rattle.unifier.specs.Areas.{AnswersIn}
use Rattle.matching.proofs.Matches.{has_failed, match_says}
use Rattle.substitution.specs.declared.answer.Answer.{Answer}
use Rattle.variables.specs.Areas.{names_in, SolutionIn}
use Rattle.variables.specs.declared.pairing.Solution.{Solution}
use Rattle.values.specs.Areas.{MemberPairedIn, PairsUpMemberIn, PairsRoomIn}
use Rattle.values.proofs.CoverLaws.{covers_read, covers_unread}
use Rattle.cover.specs.Covering.{PairsOf}
use Rattle.cover.specs.Areas.{member_end_in, MatchableIn, PassesMemberIn}

-- ---- one member

pub unread_covers : {a d : Area} (s : Solution) (at : ℕ) → PairsUpMemberIn a d s at None → PassesMemberIn a d s at None
unread_covers {a} s at h = ((λ x es f. covers_unread x es (bindings_in a s.bindings) (names_in a s.names) (h.0 x es f)), h.1)

module _ {a d : Area} {s : Solution} {at : ℕ} {p : Read ℕ} (h : MemberPairedIn a d s at p) (k : MatchableIn a s at) where
  pub matched : Matched a.sheet.now a.work.now (member_end_in a s.names at) h.ps
  matched = k.matched h.ps (h.are k.value k.entries k.reads)

  pub used_most : d.free ≤ member_end_in a s.names at
  used_most = let l = h.low in let g = h.high in omega (arith, h.used)

  module _ {m : Area} {x : Answer} (short : length a.sheet.now ≤ 65536) (y : AnswersIn d m (matcher (length d.sheet.now) (pairs_in d p.value)) x) where
    covers_as : (t : Text) (es : List Entry) → EntriesFrom a.sheet.now at es → {r : Bool} → covering h.ps ≡ r → covers (names_in a s.names) (bindings_in a s.bindings) (t, es) ≡ r
    covers_as t es f e = covers_read t es (bindings_in a s.bindings) (names_in a s.names) h.ps (h.are t es f) ∙ e

    -- by whether the match fails
    pub passes : (b : Bool) → b ≡ has_failed x.verdict → PassesMemberIn a m s at (then_some b p.next)
    passes b e = go b (match_says h.grows h.inside h.trees used_most matched short y ∙ ap not (sym e))
      where
        go : (b : Bool) → covering h.ps ≡ not b → PassesMemberIn a m s at (then_some b p.next)
        go true z = (record { low = h.low; high = h.high; ends = h.ends; is = λ t es f. covers_as t es f z }, grows_then h.grows y.grows)
        go false z = ((λ t es f. covers_as t es f z), grows_then h.grows y.grows)

-- ---- all members

-- the members before position c do not cover
pub record DecidingIn (a : Area) (s : Solution) (ms : List Member) (at c : ℕ) : Type 0 where
  pub low : at ≤ c
  pub high : c ≤ length a.sheet.now
  pub left : List Member
  pub reads : members_at a.sheet.now c ≡ Some left
  pub are : any_covers (names_in a s.names) (bindings_in a s.bindings) ms ≡ any_covers (names_in a s.names) (bindings_in a s.bindings) left
  pub some_are : (m : Member) → Memᴰ m left → Memᴰ m ms

pub deciding_starts : (a : Area) (s : Solution) (ms : List Member) (at : ℕ) → at ≤ length a.sheet.now → members_at a.sheet.now at ≡ Some ms → DecidingIn a s ms at at
deciding_starts a s ms at p e = record { low = omega arith; high = p; left = ms; reads = e; are = refl; some_are = λ m k. k }

module _ {a b : Area} {s : Solution} (keeps : KeepsCells a b) (o : SolutionIn a s) where
  names_now : trees_in b s.names ≡ trees_in a s.names
  names_now = grows_trees (grows_keeps keeps) s.names o.names.inside

  bindings_now : bindings_in b s.bindings ≡ bindings_in a s.bindings
  bindings_now = ap bindings_of (grows_trees (grows_keeps keeps) s.bindings o.bindings)

  same_now : length b.sheet.now ≡ length a.sheet.now
  same_now = ap (λ t. length t.now) keeps.lent.sheet

  pub here_room : PairsRoomIn a s.names → PairsRoomIn b s.names
  here_room w =
      let c = ap count names_now in
      let l = grows_length (grows_keeps keeps) in
      (omega (arith, w.0, c, l, same_now, keeps.end), omega (arith, w.1, c, same_now, keeps.end))

  module _ {ms : List Member} {at c : ℕ} (h : DecidingIn a s ms at c) where
    abbrev xs : List Text
    xs = names_in a s.names

    abbrev bs : List Binding
    bs = bindings_in a s.bindings

    pub deciding_ends : None ≡ value_at b.sheet.now (bytes "member=") c → false ≡ any_covers xs bs ms
    unfolding any_covers
    deciding_ends e =
        let f : None ≡ value_at a.sheet.now (bytes "member=") c = e ∙ ap (λ t. value_at t.now (bytes "member=") c) keeps.lent.sheet in
        sym (h.are ∙ ap (any_covers xs bs) (member_end a.sheet.now c h.left h.reads f))

    module _ (line : Read Place) (e : Some line ≡ value_at b.sheet.now (bytes "member=") c) where
      line_in : Some line ≡ value_at a.sheet.now (bytes "member=") c
      line_in = e ∙ ap (λ t. value_at t.now (bytes "member=") c) keeps.lent.sheet

      first : FirstMember a.sheet.now (text_of a.sheet.now line.value) line.next.at h.left
      first = member_next a.sheet.now c h.left h.reads line line_in

      pub next_after : (c < line.next.at) × (line.next.at ≤ length a.sheet.now)
      next_after = let k = keyed a.sheet.now (bytes "member=") c line line_in in let x = k.ends in (omega (arith, k.begins, k.after, x.0), omega (arith, k.after, x.1))

      pub next_inside : line.next.at ≤ length b.sheet.now
      next_inside = omega (arith, next_after.1, same_now)

      abbrev its : Member
      its = (text_of a.sheet.now line.value, first.es)

      is_member : Memᴰ its ms
      is_member = h.some_are its (subst (λ (l : List Member). Memᴰ its l) (sym first.members) (Memᴰ.head refl))

      entries_in : EntriesThen b.sheet.now line.next.at first.es first.rest
      entries_in = subst (λ t. EntriesThen t.now line.next.at first.es first.rest) (sym keeps.lent.sheet) first.entries

      now_are : (m : Member) → covers (names_in b s.names) (bindings_in b s.bindings) m ≡ covers xs bs m
      now_are m = rw (names_now, bindings_now) refl

      pub next_matchable : ((m : Member) → Memᴰ m ms → (qs : List Pair) → PairsOf a.sheet.now a.work.now s.names s.bindings m qs → Matched a.sheet.now a.work.now (member_end_in a s.names at) qs)
          → MatchableIn b s line.next.at
      next_matchable g = record {
        value = text_of a.sheet.now line.value;
        entries = first.es;
        reads = (first.rest, entries_in);
        matched = λ qs d. (
            let m = g its is_member qs (rw (sym names_now, sym bindings_now) d) in
            let k = ap count names_now in
            let r = m.room in
            let l = h.low in
            let y = next_after in
            let n = grows_length (grows_keeps keeps) in
            let f = keeps.end in
            let s = same_now in
            record { fit = m.fit; few = omega (arith, m.few); room = (omega (arith, r.0, y.0), omega (arith, r.1, y.0)) }
            );
      }

      decided : {b : Bool} → covers xs bs its ≡ b → any_covers xs bs ms ≡ elim b [ true ↦ true | false ↦ any_covers xs bs first.others ]
      unfolding any_covers
      decided d = h.are ∙ ap (any_covers xs bs) first.members ∙ ap {B = Bool} (λ (b : Bool). elim b [ true ↦ true | false ↦ any_covers xs bs first.others ]) d

      pub deciding_yes : {d : Area} → PassesMemberIn b d s line.next.at None → true ≡ any_covers xs bs ms
      deciding_yes y = sym (decided (sym (now_are its) ∙ y.0 (text_of a.sheet.now line.value) first.es (first.rest, entries_in)))

      pub deciding_no : {d : Area} (n : Cursor) → PassesMemberIn b d s line.next.at (Some n) → DecidingIn a s ms at n.at
      deciding_no n y =
          let x = next_after in
          let l = h.low in
          let r : lines_at a.sheet.now n.at ≡ Some first.rest = ap (λ t. lines_at t.now n.at) (sym keeps.lent.sheet) ∙ y.0.ends first.es first.rest entries_in in
          record {
            low = omega (arith, x.0, y.0.low);
            high = omega (arith, y.0.high, same_now);
            left = first.others;
            reads = members_later a.sheet.now n.at first.rest first.others r first.later;
            are = decided (sym (now_are its) ∙ y.0.is (text_of a.sheet.now line.value) first.es (first.rest, entries_in));
            some_are = λ m k. h.some_are m (subst (λ (l : List Member). Memᴰ m l) (sym first.members) (Memᴰ.tail k));
          }
