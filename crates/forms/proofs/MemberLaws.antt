-- Members: what reading them from the last gives, told from the first.
use mathlib.Core.Path.{◌≡◌, refl, ap, sym, ◌∙◌}
use mathlib.Core.Logic.{◌⊎◌, inl, inr, ⊎_elim}
use mathlib.Core.Bool.{Bool, true, false}
use mathlib.Core.List.{List, [], ◌∷◌, ◌++◌, append-nil}
use Rattle.std.specs.Prelude.{Option, Some, None}
use Prim.Native.Nat.{ℕ, ◌+◌, ◌<◌, ◌≤◌}
use native.Mathlib.Omega.{arith}
use lib.Dec.{eqb}
use lib.ListN.{length}
use Rattle.rules.specs.Bytes.{Text}
use Rattle.rules.specs.Text.{bytes}
use Rattle.rules.specs.Maybe.{◌>>=◌, guard}
use Rattle.rules.specs.Lines.{after_key}
use Rattle.rules.specs.Sheet.{Entry, Member, Members, with_entry, entry_before, member_before, distinct_keys, members_from, none_waiting}
use Rattle.laws.proofs.Basics.Tests.{eqb_true, eqb_self}
use Rattle.sheet.specs.Lines.{lines_at}
use Rattle.sheet.specs.Pairs.{entries_by}
use Rattle.forms.specs.Members.{members_at, counted, Walks}
use Rattle.forms.specs.Form.{text_of}
use Rattle.sheet.specs.declared.Place.{Place}
use Rattle.sheet.specs.declared.Read.{Read}
use Rattle.sheet.proofs.LineLaws.{Keyed, Unkeyed, lines_end, lines_more}
use Rattle.forms.proofs.PairLaws.{Stops, none_first, then_rest, then_half}

abbrev if_so : Bool → Option Text → Option Text
if_so b o = elim b [ true ↦ o | false ↦ None ]

-- a line with one key does not have another that begins with another byte
pub other_key : (a b : ℕ) (ks js l v : Text) → eqb a b ≡ false → after_key (a ∷ ks) l ≡ Some v → after_key (b ∷ js) l ≡ None
unfolding after_key
other_key a b ks js [] v n e = refl
other_key a b ks js (x ∷ l) v n e = go (eqb a x) (eqb b x) refl refl e
  where
    go : (p q : Bool) → eqb a x ≡ p → eqb b x ≡ q → if_so p (after_key ks l) ≡ Some v → if_so q (after_key js l) ≡ None
    go p false f g e = refl
    go false true f g e = cc
    go true true f g e = let z : a ≡ b = eqb_true a x f ∙ sym (eqb_true b x g) in let y = eqb_self b in cc

-- ---- the definition by cases

abbrev entries : List Text → Option (List Entry × List Text)
entries = entries_by (bytes "key=") (bytes "value=")

-- entries that wait in front of the members
abbrev waits : List Entry → Option Members → Option Members
waits es o = o >>= λ p. Some (es ++ p.0, p.1)

waits_none : (o : Option Members) → o ≡ waits [] o
waits_none None = refl
waits_none (Some p) = refl

abbrev split : List Entry × List Text → Option Members
split p = waits p.0 (members_from p.1)

-- the lines from a member on, by the test of the first
abbrev by_key : Option Text → Text → Text → List Text → Option Members → Option Members → Option Members
by_key o l r ls m n =
    elim o [
      | None ↦ after_key (bytes "member=") l >>= λ v. member_before v m
      | Some k ↦ after_key (bytes "value=") r >>= λ v. entry_before (k, v) n
    ]

members_by : (l r : Text) (ls : List Text) → members_from (l ∷ r ∷ ls) ≡ by_key (after_key (bytes "key=") l) l r ls (members_from (r ∷ ls)) (members_from ls)
unfolding members_from
members_by l r ls = refl

member_alone : (l : Text) → members_from (l ∷ []) ≡ (after_key (bytes "member=") l >>= λ v. member_before v (Some ([], [])))
unfolding members_from
member_alone l = refl

members_none : members_from [] ≡ Some ([], [])
unfolding members_from
members_none = refl

-- a line `member` in front
pub member_first : (l v : Text) (ls : List Text) → after_key (bytes "member=") l ≡ Some v → members_from (l ∷ ls) ≡ member_before v (members_from ls)
member_first l v [] h =
    member_alone l ∙ ap (λ (o : Option Text). o >>= λ v. member_before v (Some ([], []))) h ∙ ap (member_before v) (sym members_none)
member_first l v (r ∷ ls) h =
    let k = other_key 109 107 (bytes "ember=") (bytes "ey=") l v refl h in
    members_by l r ls ∙ ap (λ (o : Option Text). by_key o l r ls (members_from (r ∷ ls)) (members_from ls)) k
    ∙ ap (λ (o : Option Text). o >>= λ v. member_before v (members_from (r ∷ ls))) h

-- neither a `member` nor a `key`
pub other_first : (l : Text) (ls : List Text) → after_key (bytes "key=") l ≡ None → after_key (bytes "member=") l ≡ None → members_from (l ∷ ls) ≡ None
other_first l [] k h = member_alone l ∙ ap (λ (o : Option Text). o >>= λ v. member_before v (Some ([], []))) h
other_first l (r ∷ ls) k h =
    members_by l r ls ∙ ap (λ (o : Option Text). by_key o l r ls (members_from (r ∷ ls)) (members_from ls)) k
    ∙ ap (λ (o : Option Text). o >>= λ v. member_before v (members_from (r ∷ ls))) h

-- a `key` with no member before it
key_first : (l k : Text) (ls : List Text) → after_key (bytes "key=") l ≡ Some k → none_waiting (members_from (l ∷ ls)) ≡ None
key_first l k [] h =
    let m = other_key 107 109 (bytes "ey=") (bytes "ember=") l k refl h in
    ap none_waiting (member_alone l ∙ ap (λ (o : Option Text). o >>= λ v. member_before v (Some ([], []))) m)
key_first l k (r ∷ ls) h =
    ap none_waiting (members_by l r ls ∙ ap (λ (o : Option Text). by_key o l r ls (members_from (r ∷ ls)) (members_from ls)) h)
    ∙ go (after_key (bytes "value=") r) (members_from ls)
  where
    go : (o : Option Text) (m : Option Members) → none_waiting (o >>= λ v. entry_before (k, v) m) ≡ None
    go None m = refl
    go (Some v) None = refl
    go (Some v) (Some p) = refl

-- no line, or one that is no `member`, begins no members
pub no_member : (l : Text) (ls : List Text) → after_key (bytes "member=") l ≡ None → none_waiting (members_from (l ∷ ls)) ≡ None
no_member l ls h = go (after_key (bytes "key=") l) refl
  where
    go : (o : Option Text) → after_key (bytes "key=") l ≡ o → none_waiting (members_from (l ∷ ls)) ≡ None
    go None k = ap none_waiting (other_first l ls k h)
    go (Some v) k = key_first l v ls k

-- the entries in front, then the members
members_split : (ls : List Text) → members_from ls ≡ (entries ls >>= split)
unfolding entries_by
members_split [] = members_none ∙ waits_none (Some ([], [])) ∙ ap (waits []) (sym members_none)
members_split (l ∷ []) = go (after_key (bytes "key=") l) refl
  where
    go : (o : Option Text) → after_key (bytes "key=") l ≡ o
        → members_from (l ∷ []) ≡ (elim o [ None ↦ Some ([], l ∷ []) | Some v ↦ None ] >>= split)
    go None k = waits_none (members_from (l ∷ []))
    go (Some v) k =
        let m = other_key 107 109 (bytes "ey=") (bytes "ember=") l v refl k in
        member_alone l ∙ ap (λ (o : Option Text). o >>= λ v. member_before v (Some ([], []))) m
members_split (l ∷ r ∷ ls) = members_by l r ls ∙ go (after_key (bytes "key=") l) refl (members_split ls)
  where
    both : (k w : Text) (o : Option (List Entry × List Text)) → entry_before (k, w) (o >>= split) ≡ (with_entry (k, w) o >>= split)
    both k w None = refl
    both k w (Some (es, rest)) = inner (members_from rest)
      where
        inner : (m : Option Members) → entry_before (k, w) (waits es m) ≡ waits ((k, w) ∷ es) m
        inner None = refl
        inner (Some p) = refl

    value : (k : Text) (o : Option Text) → members_from ls ≡ (entries ls >>= split)
        → (o >>= λ v. entry_before (k, v) (members_from ls)) ≡ ((o >>= λ w. with_entry (k, w) (entries ls)) >>= split)
    value k None h = refl
    value k (Some w) h = ap (entry_before (k, w)) h ∙ both k w (entries ls)

    go : (o : Option Text) → after_key (bytes "key=") l ≡ o → members_from ls ≡ (entries ls >>= split)
        → by_key o l r ls (members_from (r ∷ ls)) (members_from ls)
        ≡ (elim o [ None ↦ Some ([], l ∷ r ∷ ls) | Some v ↦ after_key (bytes "value=") r >>= λ w. with_entry (v, w) (entries ls) ] >>= split)
    go None k h = ap (λ (o : Option Text). by_key o l r ls (members_from (r ∷ ls)) (members_from ls)) (sym k) ∙ sym (members_by l r ls) ∙ waits_none (members_from (l ∷ r ∷ ls))
    go (Some v) k h = value v (after_key (bytes "value=") r) h

-- lines that begin with no `key` leave none waiting
settled : (ls : List Text) → Unkeyed (bytes "key=") (Some ls) → (members_from ls ≡ None) ⊎ ((ms : List Member) × (members_from ls ≡ Some ([], ms)))
settled [] u = inr ([], members_none)
settled (l ∷ ls) u = go (after_key (bytes "member=") l) refl
  where
    guards : (v : Text) (m : Option Members) → members_from (l ∷ ls) ≡ member_before v m → (members_from (l ∷ ls) ≡ None) ⊎ ((ms : List Member) × (members_from (l ∷ ls) ≡ Some ([], ms)))
    guards v None e = inl e
    guards v (Some (es, ms)) e = test (distinct_keys es []) e
      where
        test : (b : Bool) → members_from (l ∷ ls) ≡ (guard b >>= λ u. Some ([], (v, es) ∷ ms)) → (members_from (l ∷ ls) ≡ None) ⊎ ((ms : List Member) × (members_from (l ∷ ls) ≡ Some ([], ms)))
        test true e = inr ((v, es) ∷ ms, e)
        test false e = inl e

    go : (o : Option Text) → after_key (bytes "member=") l ≡ o → (members_from (l ∷ ls) ≡ None) ⊎ ((ms : List Member) × (members_from (l ∷ ls) ≡ Some ([], ms)))
    go None h = inl (other_first l ls u h)
    go (Some v) h = guards v (members_from ls) (member_first l v ls h)

-- ---- a member at a position

pub members_end : (s : Text) (at : ℕ) → length s ≤ at → members_at s at ≡ Some []
unfolding members_at
members_end s at h = ap (λ (o : Option (List Text)). o >>= λ ls. none_waiting (members_from ls)) (lines_end s at h) ∙ ap none_waiting members_none

pub members_missing : (s : Text) (at : ℕ) → at < length s → Unkeyed (bytes "member=") (lines_at s at) → members_at s at ≡ None
unfolding members_at
members_missing s at h u = go (lines_at s at) refl u
  where
    go : (o : Option (List Text)) → lines_at s at ≡ o → Unkeyed (bytes "member=") o → (o >>= λ ls. none_waiting (members_from ls)) ≡ None
    go None e u = refl
    go (Some []) e u = absurd (lines_more s at h e)
    go (Some (l ∷ ls)) e u = no_member l ls u

-- the member's value, its entries, and the members after them
abbrev pub member_then : Text → List Entry → Option (List Member) → Option (List Member)
member_then v es o = guard (distinct_keys es []) >>= λ u. o >>= λ ms. Some ((v, es) ∷ ms)

abbrev no_members : Option (List Member)
no_members = None

then_none : (v : Text) (es : List Entry) → member_then v es None ≡ None
then_none v es = go (distinct_keys es [])
  where
    go : (b : Bool) → (guard b >>= λ u. no_members >>= λ ms. Some ((v, es) ∷ ms)) ≡ None
    go true = refl
    go false = refl

-- what follows a line `member` with this value
abbrev pub onward : Text → List Entry × List Text → Option (List Member)
onward v p = none_waiting (member_before v (split p))

-- the members after the entries, where no key follows
pub rest_of : (v : Text) (es : List Entry) (ls : List Text) → Unkeyed (bytes "key=") (Some ls) → onward v (es, ls) ≡ member_then v es (none_waiting (members_from ls))
rest_of v es ls u =
    ⊎_elim
    (λ z. ap (λ (o : Option Members). none_waiting (member_before v (waits es o))) z ∙ sym (ap (λ (o : Option Members). member_then v es (none_waiting o)) z ∙ then_none v es))
    (λ z. ap (λ (o : Option Members). none_waiting (member_before v (waits es o))) z.1
    ∙ ap (λ (es : List Entry). none_waiting (member_before v (Some (es, z.0)))) (append-nil es)
    ∙ test (distinct_keys es []) z.0
    ∙ sym (ap (λ (o : Option Members). member_then v es (none_waiting o)) z.1))
    (settled ls u)
  where
    test : (b : Bool) (ms : List Member) → none_waiting (guard b >>= λ u. Some ([], (v, es) ∷ ms)) ≡ (guard b >>= λ u. Some ((v, es) ∷ ms))
    test true ms = refl
    test false ms = refl

half_members : (ls : List Text) → entries ls ≡ None → none_waiting (members_from ls) ≡ None
half_members [] e = let z = none_first (bytes "key=") (bytes "value=") [] tt in cc
half_members (l ∷ ls) e = go (after_key (bytes "key=") l) refl
  where
    go : (o : Option Text) → after_key (bytes "key=") l ≡ o → none_waiting (members_from (l ∷ ls)) ≡ None
    go None k = let z = none_first (bytes "key=") (bytes "value=") (l ∷ ls) k in cc
    go (Some v) k = key_first l v ls k

module _ (s : Text) (at : ℕ) (l : Read Place) (h : Keyed s (bytes "member=") at l) where
  abbrev text : Text
  text = text_of s l.value

  pub from_member : members_at s at ≡ (lines_at s l.next.at >>= λ ls. entries_by (bytes "key=") (bytes "value=") ls >>= onward (text_of s l.value))
  unfolding members_at
  from_member = ap (λ (o : Option (List Text)). o >>= λ ls. none_waiting (members_from ls)) h.first ∙ go (lines_at s l.next.at)
    where
      on : (o : Option (List Entry × List Text)) → none_waiting (member_before text (o >>= split)) ≡ (o >>= onward text)
      on None = refl
      on (Some p) = refl

      go : (o : Option (List Text)) → ((o >>= λ ls. Some (h.line ∷ ls)) >>= λ ls. none_waiting (members_from ls)) ≡ (o >>= λ ls. entries ls >>= onward text)
      go None = refl
      go (Some ls) = ap none_waiting (member_first h.line text ls h.has ∙ ap (member_before text) (members_split ls)) ∙ on (entries ls)

  module _ (c : ℕ) (w : Walks (bytes "key=") (bytes "value=") s l.next.at c) (e : Stops (bytes "key=") (bytes "value=") s c) where
    pub member_turn : members_at s at ≡ member_then (text_of s l.value) w.es (members_at s c)
    unfolding members_at
    member_turn = from_member ∙ ⊎_elim rest half e
      where
        rest : Unkeyed (bytes "key=") (lines_at s c) → (lines_at s l.next.at >>= λ ls. entries ls >>= onward text) ≡ member_then text w.es (lines_at s c >>= λ ls. none_waiting (members_from ls))
        rest u = then_rest (bytes "key=") (bytes "value=") s l.next.at c w (onward text) u ∙ ap (λ (es : List Entry). lines_at s c >>= λ ls. onward text (es, ls)) (append-nil w.es) ∙ go (lines_at s c) u
          where
            go : (o : Option (List Text)) → Unkeyed (bytes "key=") o → (o >>= λ ls. onward text (w.es, ls)) ≡ member_then text w.es (o >>= λ ls. none_waiting (members_from ls))
            go None u = sym (then_none text w.es)
            go (Some ls) u = rest_of text w.es ls u

        half : (lines_at s c >>= entries) ≡ None → (lines_at s l.next.at >>= λ ls. entries ls >>= onward text) ≡ member_then text w.es (lines_at s c >>= λ ls. none_waiting (members_from ls))
        half u = then_half (bytes "key=") (bytes "value=") s l.next.at c w (onward text) u ∙ sym (ap (member_then text w.es) (go (lines_at s c) u) ∙ then_none text w.es)
          where
            go : (o : Option (List Text)) → (o >>= entries) ≡ None → (o >>= λ ls. none_waiting (members_from ls)) ≡ None
            go None u = refl
            go (Some ls) u = half_members ls u

    -- a member that repeats a key, and one that does not
    pub member_repeats : distinct_keys w.es [] ≡ false → members_at s at ≡ None
    member_repeats d = member_turn ∙ ap (λ (b : Bool). guard b >>= λ u. members_at s c >>= λ ms. Some ((text, w.es) ∷ ms)) d

    pub member_there : distinct_keys w.es [] ≡ true → members_at s at ≡ (members_at s c >>= λ ms. Some ((text, w.es) ∷ ms))
    member_there d = member_turn ∙ ap (λ (b : Bool). guard b >>= λ u. members_at s c >>= λ ms. Some ((text, w.es) ∷ ms)) d

pub count_more : (n : ℕ) (m : Member) (o : Option (List Member)) → counted n (o >>= λ ms. Some (m ∷ ms)) ≡ counted (n + 1) o
count_more n m None = refl
count_more n m (Some ms) = ap Some (omega arith)
