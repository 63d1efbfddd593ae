-- The members of a sheet read into an area, one before the other.
use Prim.Native.Nat.{ℕ, ◌+◌, ◌-◌, ◌<◌, ◌≤◌}
use native.Mathlib.Omega.{arith}
use mathlib.Core.Path.{◌≡◌, refl, sym, ap, subst, ◌∙◌}
use mathlib.Core.Bool.{true, false, false≢true}
use mathlib.Core.List.{List, [], ◌∷◌}
use Rattle.std.specs.Prelude.{Option, Some, None}
use Rattle.std.specs.Option.{is_some}
use lib.ListN.{length}
use Rattle.rules.specs.Bytes.{Text}
use Rattle.rules.specs.Text.{bytes}
use Rattle.rules.specs.Maybe.{every}
use Rattle.rules.specs.Tree.{Trees, more, size, sizes}
use Rattle.rules.specs.Sheet.{Member}
use Rattle.rules.specs.Variants.{Variant}
use Rattle.tree.specs.declared.area.Area.{Area}
use Rattle.tree.specs.Areas.{tree_in, trees_in, Grows}
use Rattle.tree.proofs.Decoding.{trees_none}
use Rattle.tree.proofs.Keeping.{grows_same, grows_then, grows_trees, adds_grows}
use Rattle.tree.specs.Lists.{Lists}
use Rattle.sheet.specs.Lines.{value_at}
use Rattle.sheet.specs.declared.Place.{Place}
use Rattle.sheet.specs.declared.Read.{Read as Taken}
use Rattle.forms.specs.Members.{members_at}
use Rattle.forms.proofs.WalkLaws.{member_end, member_next}
use Rattle.variants.specs.Members.{texts_end, MemberThere}
use Rattle.variants.specs.Areas.{ReadMemberIn, ReadsMemberIn}
use Rattle.variants.specs.declared.members.Variant.{Variant as Read}
use Rattle.families.specs.Families.{member_tree, Family, nil, next, ReadAll, MembersThere}
use Rattle.families.specs.Areas.{ReadMembersIn, ReadsMembersIn}
use Rattle.families.proofs.Gathering.{read_all, after, after_more, read_first, self, no_sizes}

-- the members before position c stand as the trees ts, the last first
pub record SeenIn (s : Text) (c : ℕ) (ts : Trees) (ms : List Member) : Type 0 where
  pub rest : List Member
  pub vs : List Variant
  pub later : members_at s c ≡ Some rest
  pub read : read_all ms ≡ after vs (read_all rest)
  pub family : Family ts vs

pub record GatheringIn (a b : Area) (at c list : ℕ) : Type 0 where
  pub grows : Grows a b
  pub seen : (ms : List Member) → members_at a.sheet.now at ≡ Some ms → SeenIn a.sheet.now c (trees_in b list) ms
  pub used : texts_end a.sheet.now b.free c ≤ texts_end a.sheet.now a.free at
  pub light : sizes (trees_in b list) + (length a.sheet.now - c) ≤ length a.sheet.now - at
  pub inside : list < b.free

pub gathering_starts : (a : Area) (at : ℕ) → GatheringIn a a at at 0
gathering_starts a at =
    let e = trees_none a.sheet.now a.work.now 0 refl in
    record {
      grows = grows_same a;
      seen = λ ms h. record { rest = ms; vs = []; later = h; read = self (read_all ms); family = subst (λ (ts : Trees). Family ts []) (sym e) nil };
      used = omega arith;
      light = omega (arith, no_sizes a.sheet.now a.work.now);
      inside = a.arena.links.some;
    }

a_line : (o : Option (Taken Place)) → is_some o ≡ true → (l : Taken Place) × (Some l ≡ o)
a_line None e = absurd (false≢true e)
a_line (Some l) e = (l, refl)

no_line : (o : Option (Taken Place)) → is_some o ≡ false → None ≡ o
no_line None e = refl
no_line (Some l) e = absurd (false≢true (sym e))

module _ {a b : Area} {at c list : ℕ} (h : GatheringIn a b at c list) {o : Option (Taken Place)} (found : o ≡ value_at b.sheet.now (bytes "member=") c) where
  same_sheet : b.sheet.now ≡ a.sheet.now
  same_sheet = ap (λ t. t.now) h.grows.lent.sheet

  found_in : o ≡ value_at a.sheet.now (bytes "member=") c
  found_in = found ∙ ap (λ t. value_at t (bytes "member=") c) same_sheet

  pub gathering_ends : is_some o ≡ false → ReadMembersIn a b at list
  unfolding every
  gathering_ends e = record { grows = h.grows; reads = all; used = omega (arith, h.used); light = omega (arith, h.light); inside = h.inside }
    where
      all : (ms : List Member) → members_at a.sheet.now at ≡ Some ms → ReadAll b.sheet.now b.work.now list ms
      all ms k =
          let x = h.seen ms k in
          let z = member_end a.sheet.now c x.rest x.later (no_line o e ∙ found_in) in
          record { vs = x.vs; read = x.read ∙ ap (λ (l : List Member). after x.vs (read_all l)) z; family = x.family }

  module _ (some : is_some o ≡ true) where
    line : Taken Place
    line = (a_line o some).0

    e : Some line ≡ value_at a.sheet.now (bytes "member=") c
    unfolding line
    e = (a_line o some).1 ∙ found_in

    -- the next of the members
    pub gathering_next : MembersThere a.sheet.now at → MemberThere b.sheet.now c
    gathering_next o =
        let y = h.seen o.ms o.are in
        let z = member_next a.sheet.now c y.rest y.later line e in
        record { member = _; later = z.others; are = ap (λ t. members_at t c) same_sheet ∙ y.later ∙ ap Some z.members }

    -- one that cannot be read
    pub gathering_unread : {d : Area} → ReadsMemberIn b d c None → ReadsMembersIn a d at None
    gathering_unread {d} x = (all, grows_then h.grows x.1)
      where
        all : (ms : List Member) → members_at a.sheet.now at ≡ Some ms → read_all ms ≡ None
        all ms k =
            let y = h.seen ms k in
            let z = member_next a.sheet.now c y.rest y.later line e in
            y.read ∙ ap (λ (l : List Member). after y.vs (read_all l)) z.members
            ∙ ap (after y.vs) (read_first _ z.others None (x.0 _ z.others (ap (λ t. members_at t c) same_sheet ∙ y.later ∙ ap Some z.members)))

    -- one more
    module _ {d g : Area} {r : Read} {i : ℕ} (x : ReadMemberIn b d c r) (y : Lists d g i (more (member_tree (tree_in d r.value) (trees_in d r.bindings)) (trees_in d list))) (z : g.free ≡ d.free + 2) where
      both : Grows b g
      both = grows_then x.grows (adds_grows y.adds)

      now_trees : trees_in g i ≡ more (member_tree (tree_in d r.value) (trees_in d r.bindings)) (trees_in b list)
      now_trees = y.trees ∙ ap (more (member_tree (tree_in d r.value) (trees_in d r.bindings))) (grows_trees x.grows list h.inside)

      more_sizes : sizes (trees_in g i) ≡ 1 + (size (tree_in d r.value) + sizes (trees_in d r.bindings)) + sizes (trees_in b list)
      unfolding size
      more_sizes = ap sizes now_trees

      more_seen : (ms : List Member) → members_at a.sheet.now at ≡ Some ms → SeenIn a.sheet.now r.next.at (trees_in g i) ms
      more_seen ms q =
          let o = h.seen ms q in
          let n = member_next a.sheet.now c o.rest o.later line e in
          let m = x.reads _ n.others (ap (λ t. members_at t c) same_sheet ∙ o.later ∙ ap Some n.members) in
          record {
            rest = n.others;
            vs = (tree_in d r.value, m.bs) ∷ o.vs;
            later = ap (λ t. members_at t r.next.at) (sym (ap (λ t. t.now) x.grows.lent.sheet ∙ same_sheet)) ∙ m.later;
            read =
                o.read ∙ ap (λ (l : List Member). after o.vs (read_all l)) n.members
                ∙ ap (after o.vs) (read_first _ n.others (Some (tree_in d r.value, m.bs)) m.read)
                ∙ after_more (tree_in d r.value, m.bs) o.vs (read_all n.others);
            family = subst (λ (ts : Trees). Family ts ((tree_in d r.value, m.bs) ∷ o.vs)) (sym now_trees) (next (record { bindings = trees_in d r.bindings; is = refl; chain = x.chain; alike = m.alike }) o.family);
          }

      pub gathering_turn : GatheringIn a g at r.next.at i
      gathering_turn =
          let l : length d.sheet.now ≡ length a.sheet.now = ap length (ap (λ t. t.now) x.grows.lent.sheet ∙ same_sheet) in
          record {
            grows = grows_then h.grows both;
            seen = more_seen;
            used = omega (arith, h.used, x.used, x.onward, x.within);
            light = omega (arith, more_sizes, h.light, x.light, x.onward, x.within);
            inside = y.inside;
          }
