-- A member's lines as the definitions read them: where they stand, and what an unreadable text of them means.
use Prim.Native.Nat.{ℕ, ◌+◌, ◌-◌, ◌<◌, ◌≤◌}
use native.Mathlib.Omega.{arith}
use mathlib.Core.Path.{◌≡◌, refl, sym, ap, ap₂, ◌∙◌}
use mathlib.Core.Bool.{Bool, true, false, cond}
use mathlib.Core.List.{List, ◌∷◌, ◌++◌, append-nil, map}
use Rattle.std.specs.Prelude.{Option, Some, None}
use lib.ListN.{length, drop, length-take}
use Rattle.rules.specs.Bytes.{Text}
use Rattle.rules.specs.Text.{bytes}
use Rattle.rules.specs.Maybe.{◌>>=◌, every}
use Rattle.rules.specs.Tree.{Tree, variable, Trees, more, size, sizes}
use Rattle.rules.specs.Reading.{parse}
use Rattle.rules.specs.Substitution.{Binding}
use Rattle.rules.specs.Sheet.{Entry, Member}
use Rattle.rules.specs.Variants.{Variant, read_entry, read_member}
use Rattle.laws.proofs.Basics.Options.{bound}
use Rattle.laws.proofs.Reading.Colons.{parse_size}
use Rattle.sheet.specs.Lines.{part_of, lines_at, value_at}
use Rattle.sheet.specs.Pairs.{two_lines_at, entries_by, entries_before}
use Rattle.sheet.specs.declared.Place.{Place}
use Rattle.sheet.specs.declared.Read.{Read}
use Rattle.sheet.specs.declared.Sides.{Sides}
use Rattle.sheet.proofs.LineLaws.{keyed}
use Rattle.forms.specs.Members.{members_at, EntriesThen, Walks}
use Rattle.forms.specs.Form.{text_of}
use Rattle.forms.proofs.WalkLaws.{two_there, two_end, member_end, member_next, members_later}
use Rattle.variants.specs.Members.{nameable, binding_before, DistinctEntries, MemberThere}
use Rattle.variants.specs.Areas.{UnreadEntries, UnreadMember}
use Rattle.variants.proofs.Lookups.{entries_unread}

-- a tree has at most as many nodes as its text has bytes
pub part_size : (s : Text) (f t : ℕ) (x : Tree) → parse (part_of f t s) ≡ Some x → size x ≤ t - f
part_size s f t x e = omega (arith, parse_size (part_of f t s) x e, length-take (t - f) (drop f s))

binding_size : (x : Text) (t : Tree) (ts : Trees) → sizes (more (variable x) (more t ts)) ≡ 1 + (size t + sizes ts)
unfolding size
binding_size x t ts = refl

pub with_size : (x : Text) (t : Tree) (ts : Trees) → sizes (binding_before x t ts) ≤ 1 + (size t + sizes ts)
unfolding binding_before
with_size x t ts = go (nameable x)
  where
    go : (b : Bool) → sizes (cond b (more (variable x) (more t ts)) ts) ≤ 1 + (size t + sizes ts)
    go true = omega (arith, binding_size x t ts)
    go false = omega arith

-- ---- entries in front of others

parts_before : (es : List Entry) (p : List Entry × List Text) (fs : List Entry) (rest : List Text) → entries_before es p ≡ Some (fs, rest) → (es ++ p.0 ≡ fs) × (p.1 ≡ rest)
parts_before es (gs, ls) fs rest e =
    let z : ◌≡◌ {A = List Entry × List Text} (es ++ gs, ls) (fs, rest) = cc in
    (ap (λ (q : List Entry × List Text). q.0) z, ap (λ (q : List Entry × List Text). q.1) z)

-- an entry after those walked over has no readable value
pub walk_unread : (s : Text) {at c : ℕ} (walk : Walks (bytes "key=") (bytes "value=") s at c) (two : Read Sides) → Some two ≡ two_lines_at (bytes "key=") (bytes "value=") s c → parse (text_of s two.value.right) ≡ None
    → UnreadEntries s at
walk_unread s {at} {c} walk two e x es (rest, f) =
    let (p, a, b) = bound (lines_at s c >>= entries_by (bytes "key=") (bytes "value=")) (entries_before walk.es) (es, rest) (sym walk.chain ∙ f) in
    let (fs, d, g) = two_there (bytes "key=") (bytes "value=") s c p.0 p.1 a two e in
    let z = (parts_before walk.es p es rest b).0 in
    ap (λ (gs : List Entry). every (map read_entry gs)) (sym z ∙ ap (λ (gs : List Entry). walk.es ++ gs) d) ∙ entries_unread walk.es (text_of s two.value.left) (text_of s two.value.right) fs x

-- a walk that stops is over all of them
pub walk_all : (s : Text) {at c : ℕ} (walk : Walks (bytes "key=") (bytes "value=") s at c) → None ≡ two_lines_at (bytes "key=") (bytes "value=") s c → {es : List Entry} {rest : List Text}
    → EntriesThen s at es rest → (es ≡ walk.es) × (lines_at s c ≡ Some rest)
walk_all s {at} {c} walk stops {es} {rest} f =
    let (p, a, b) = bound (lines_at s c >>= entries_by (bytes "key=") (bytes "value=")) (entries_before walk.es) (es, rest) (sym walk.chain ∙ f) in
    let q = parts_before walk.es p es rest b in
    let g = two_end (bytes "key=") (bytes "value=") s c p.0 p.1 a stops in
    (sym q.0 ∙ ap (λ (gs : List Entry). walk.es ++ gs) g.0 ∙ append-nil walk.es, g.1 ∙ ap Some q.1)

-- ---- the definition by what its texts read as

member_as : (v : Text) (es : List Entry) (o : Option Tree) (p : Option (List Binding)) → parse v ≡ o → every (map read_entry es) ≡ p
    → read_member (v, es) ≡ (o >>= λ t. p >>= λ bs. Some (t, bs))
unfolding read_member
member_as v es o p e f = ap₂ (λ (o : Option Tree) (p : Option (List Binding)). o >>= λ t. p >>= λ bs. Some (t, bs)) e f

abbrev unread : Option Variant
unread = None

entries_none : (o : Option Tree) → (o >>= λ t. unread) ≡ unread
entries_none None = refl
entries_none (Some t) = refl

first_of : {m : Member} {ms : List Member} {v : Text} {es : List Entry} {os : List Member} → m ∷ ms ≡ (v, es) ∷ os → (m ≡ (v, es)) × (ms ≡ os)
first_of e = (cc, cc)

-- ---- a member at a position

pub line_none : (s : Text) (at : ℕ) → None ≡ value_at s (bytes "member=") at → UnreadMember s at
line_none s at e m ms h =
    let z = member_end s at (m ∷ ms) h e in
    let y : ◌≡◌ {A = ℕ} 0 1 = cc in
    absurd (omega arith)

module _ (s : Text) (at : ℕ) (line : Read Place) (e : Some line ≡ value_at s (bytes "member=") at) where
  -- the text of the line, and where it ends
  pub member_placed : (at < line.next.at) × (line.next.at ≤ length s) × (line.value.from ≤ line.value.to) × (line.value.to < length s) × (at + 8 + (line.value.to - line.value.from) ≡ line.next.at)
  member_placed =
      let h = keyed s (bytes "member=") at line e in
      let l : length (bytes "member=") ≡ 7 = refl in
      omega (arith, h.begins, h.ends, h.after)

  pub text_none : parse (text_of s line.value) ≡ None → UnreadMember s at
  text_none x m ms h =
      let y = member_next s at (m ∷ ms) h line e in
      ap read_member (first_of y.members).0 ∙ member_as (text_of s line.value) y.es None (every (map read_entry y.es)) x refl

  pub values_none : UnreadEntries s line.next.at → UnreadMember s at
  values_none x m ms h =
      let y = member_next s at (m ∷ ms) h line e in
      ap read_member (first_of y.members).0 ∙ member_as (text_of s line.value) y.es (parse (text_of s line.value)) None refl (x y.es (y.rest, y.entries)) ∙ entries_none (parse (text_of s line.value))

  pub member_read : {d : ℕ} (walk : Walks (bytes "key=") (bytes "value=") s line.next.at d) → None ≡ two_lines_at (bytes "key=") (bytes "value=") s d → {t : Tree} {bs : List Binding}
      → parse (text_of s line.value) ≡ Some t → every (map read_entry walk.es) ≡ Some bs → (m : Member) (ms : List Member) → members_at s at ≡ Some (m ∷ ms)
      → (read_member m ≡ Some (t, bs)) × (members_at s d ≡ Some ms)
  member_read {d} walk stops {t} {bs} u v m ms h =
      let y = member_next s at (m ∷ ms) h line e in
      let z = first_of y.members in
      let k = walk_all s walk stops y.entries in (
        ap read_member (z.0 ∙ ap (λ (es : List Entry). (text_of s line.value, es)) k.0) ∙ member_as (text_of s line.value) walk.es (Some t) (Some bs) u v,
        members_later s d y.rest ms k.1 (y.later ∙ ap Some (sym z.1)),
      )

  -- the entries of the member that stands there
  pub member_entries : MemberThere s at → DistinctEntries s line.next.at
  member_entries h =
      let y = member_next s at (h.member ∷ h.later) h.are line e in
      record { entries = y.es; rest = y.rest; are = y.entries; distinct = y.distinct }
