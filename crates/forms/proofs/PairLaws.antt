-- Pairs of lines: two lines at a position, and a walk over as many as there are.
use mathlib.Core.Path.{◌≡◌, refl, ap, sym, subst, ◌∙◌}
use mathlib.Core.Logic.{◌⊎◌, inl, inr}
use mathlib.Core.List.{List, [], ◌∷◌, ◌++◌, append_assoc}
use Rattle.std.specs.Prelude.{Option, Some, None}
use Prim.Native.Nat.{ℕ, ◌<◌, ◌≤◌}
use native.Mathlib.Omega.{arith}
use lib.ListN.{length}
use Rattle.rules.specs.Bytes.{Text}
use Rattle.rules.specs.Text.{bytes}
use Rattle.rules.specs.Maybe.{◌>>=◌}
use Rattle.rules.specs.Lines.{after_key}
use Rattle.rules.specs.Sheet.{Entry, with_entry, pairs}
use Rattle.laws.proofs.Basics.Options.{bound}
use Rattle.laws.proofs.Basics.Somes.{some_injective, none_ne_some}
use Rattle.sheet.specs.Lines.{lines_at, value_at}
use Rattle.sheet.specs.Pairs.{sides_of, two_lines_at, entries_by, entries_before}
use Rattle.forms.specs.Members.{Walks}
use Rattle.forms.specs.Form.{text_of}
use Rattle.sheet.specs.declared.Cursor.{Cursor}
use Rattle.sheet.specs.declared.Place.{Place}
use Rattle.sheet.specs.declared.Read.{Read}
use Rattle.sheet.specs.declared.Sides.{Sides}
use Rattle.sheet.proofs.LineLaws.{Keyed, Unkeyed, keyed, unkeyed, lines_end}

-- ---- the definition of the pairs by cases

pub pairs_are : (ls : List Text) → pairs ls ≡ entries_by (bytes "left=") (bytes "right=") ls
unfolding pairs entries_by
pairs_are [] = refl
pairs_are (l ∷ []) = refl
pairs_are (l ∷ r ∷ ls) =
    ap
    (λ (o : Option (List Entry × List Text)).
    elim (after_key (bytes "left=") l) [ None ↦ Some ([], l ∷ r ∷ ls) | Some v ↦ after_key (bytes "right=") r >>= λ w. with_entry (v, w) o ])
    (pairs_are ls)

module _ (first second : Text) where
  -- lines that begin with no pair
  pub none_first : (ls : List Text) → Unkeyed first (Some ls) → entries_by first second ls ≡ Some ([], ls)
  unfolding entries_by
  none_first [] h = refl
  none_first (l ∷ []) h = ap (λ (o : Option Text). elim o [ None ↦ Some ([], l ∷ []) | Some v ↦ None ]) h
  none_first (l ∷ r ∷ ls) h =
      ap
      (λ (o : Option Text).
      elim o [ None ↦ Some ([], l ∷ r ∷ ls) | Some v ↦ after_key second r >>= λ w. with_entry (v, w) (entries_by first second ls) ])
      h

  -- a first line without its second
  half_first : (l v : Text) (o : Option (List Text)) → after_key first l ≡ Some v → Unkeyed second o → ((o >>= λ ls. Some (l ∷ ls)) >>= entries_by first second) ≡ None
  unfolding entries_by
  half_first l v None h g = refl
  half_first l v (Some []) h g = ap (λ (o : Option Text). elim o [ None ↦ Some ([], l ∷ []) | Some v ↦ None ]) h
  half_first l v (Some (r ∷ ls)) h g =
      ap
      (λ (o : Option Text).
      elim o [ None ↦ Some ([], l ∷ r ∷ ls) | Some v ↦ after_key second r >>= λ w. with_entry (v, w) (entries_by first second ls) ])
      h
      ∙ ap (λ (o : Option Text). o >>= λ w. with_entry (v, w) (entries_by first second ls)) g

  -- a pair in front
  pair_first : (l r v w : Text) (o : Option (List Text)) → after_key first l ≡ Some v → after_key second r ≡ Some w
      → ((o >>= λ ls. Some (l ∷ r ∷ ls)) >>= entries_by first second) ≡ ((o >>= entries_by first second) >>= entries_before ((v, w) ∷ []))
  unfolding entries_by
  pair_first l r v w None h g = refl
  pair_first l r v w (Some ls) h g =
      ap
      (λ (o : Option Text).
      elim o [ None ↦ Some ([], l ∷ r ∷ ls) | Some v ↦ after_key second r >>= λ w. with_entry (v, w) (entries_by first second ls) ])
      h
      ∙ ap (λ (o : Option Text). o >>= λ w. with_entry (v, w) (entries_by first second ls)) g
      ∙ go (entries_by first second ls)
    where
      go : (o : Option (List Entry × List Text)) → with_entry (v, w) o ≡ (o >>= entries_before ((v, w) ∷ []))
      go None = refl
      go (Some p) = refl

-- ---- two lines at a position

pub record Paired (first second s : Text) (at : ℕ) (p : Read Sides) : Type 0 where
  pub middle : Cursor
  pub one : Keyed s first at (record { value = p.value.left; next = middle })
  pub two : Keyed s second middle.at (record { value = p.value.right; next = p.next })

module _ (first second s : Text) (at : ℕ) where
  pub paired : (p : Read Sides) → Some p ≡ two_lines_at first second s at → Paired first second s at p
  unfolding two_lines_at
  paired p q =
      let (l, a, b) = bound (value_at s first at) (λ l. value_at s second l.next.at >>= λ r. Some (sides_of l r)) p (sym q) in
      let (r, c, d) = bound (value_at s second l.next.at) (λ r. Some (sides_of l r)) p b in
      subst (Paired first second s at) (some_injective _ _ d)
      (record {
        middle = l.next;
        one = keyed s first at l (sym a);
        two = keyed s second l.next.at r (sym c);
      })

  -- no first line, or a first line without its second
  abbrev pub Stops : Type 0
  Stops = Unkeyed first (lines_at s at) ⊎ ((lines_at s at >>= entries_by first second) ≡ None)

  stops_two : (l : Read Place) (o : Option (Read Place)) → Some l ≡ value_at s first at → o ≡ value_at s second l.next.at → None ≡ (o >>= λ r. Some (sides_of l r)) → Stops
  stops_two l (Some r) e g q = absurd (none_ne_some _ q)
  stops_two l None e g q =
      let k = keyed s first at l e in
      inr (ap (λ (o : Option (List Text)). o >>= entries_by first second) k.first ∙ half_first first second k.line (text_of s l.value) (lines_at s l.next.at) k.has (unkeyed s second l.next.at g))

  stops_one : (o : Option (Read Place)) → o ≡ value_at s first at → None ≡ (o >>= λ l. value_at s second l.next.at >>= λ r. Some (sides_of l r)) → Stops
  stops_one None e q = inl (unkeyed s first at e)
  stops_one (Some l) e q = stops_two l (value_at s second l.next.at) e refl q

  pub stops : None ≡ two_lines_at first second s at → Stops
  unfolding two_lines_at
  stops q = stops_one (value_at s first at) refl q

  -- a pair stands within the sheet
  pub pair_past : (p : Read Sides) → Some p ≡ two_lines_at first second s at → (at < p.next.at) × (p.next.at ≤ length s)
  pair_past p q = let h = paired p q in omega (arith, h.one.begins, h.one.ends, h.one.after, h.two.begins, h.two.ends, h.two.after)

  -- the entry of a pair
  abbrev pub entry : Read Sides → Entry
  entry p = (text_of s p.value.left, text_of s p.value.right)

  two_lines : {p : Read Sides} (h : Paired first second s at p)
      → lines_at s at ≡ (lines_at s p.next.at >>= λ ls. Some (h.one.line ∷ h.two.line ∷ ls))
  two_lines {p} h =
      h.one.first ∙ ap (λ (o : Option (List Text)). o >>= λ ls. Some (h.one.line ∷ ls)) h.two.first ∙ go (lines_at s p.next.at)
    where
      go : (o : Option (List Text)) → ((o >>= λ ls. Some (h.two.line ∷ ls)) >>= λ ls. Some (h.one.line ∷ ls)) ≡ (o >>= λ ls. Some (h.one.line ∷ h.two.line ∷ ls))
      go None = refl
      go (Some ls) = refl

  -- the entries from a pair on
  pub entries_then : {p : Read Sides} → Paired first second s at p
      → (lines_at s at >>= entries_by first second) ≡ ((lines_at s p.next.at >>= entries_by first second) >>= entries_before (entry p ∷ []))
  entries_then {p} h =
      ap (λ (o : Option (List Text)). o >>= entries_by first second) (two_lines h)
      ∙ pair_first first second h.one.line h.two.line (text_of s p.value.left) (text_of s p.value.right) (lines_at s p.next.at) h.one.has h.two.has

-- ---- a walk over pairs

module _ (first second s : Text) (at : ℕ) where
  unfoldable pub walk_starts : Walks first second s at at
  walk_starts = record { es = []; chain = go (lines_at s at >>= entries_by first second); low = omega arith; high = λ h. h }
    where
      go : (o : Option (List Entry × List Text)) → o ≡ (o >>= entries_before [])
      go None = refl
      go (Some p) = refl

  pub joins : (es fs : List Entry) (o : Option (List Entry × List Text)) → ((o >>= entries_before fs) >>= entries_before es) ≡ (o >>= entries_before (es ++ fs))
  joins es fs None = refl
  joins es fs (Some (gs, ls)) = ap (λ (l : List Entry). Some (l, ls)) (sym (append_assoc es fs gs))

  unfoldable pub walk_turn : {c : ℕ} {p : Read Sides} → Walks first second s at c → Some p ≡ two_lines_at first second s c → Walks first second s at p.next.at
  walk_turn {c} {p} w q =
      let e = entry first second s c p in
      let h = paired first second s c p q in
      record {
        es = w.es ++ (e ∷ []);
        chain =
            w.chain ∙ ap (λ (o : Option (List Entry × List Text)). o >>= entries_before w.es) (entries_then first second s c h)
            ∙ joins w.es (e ∷ []) (lines_at s p.next.at >>= entries_by first second);
        low = omega (arith, w.low, pair_past first second s c p q);
        high = λ k. (pair_past first second s c p q).1;
      }

-- ---- readings that go on after the pairs

module _ {A : Type 0} (first second s : Text) (at c : ℕ) (w : Walks first second s at c) (go_on : List Entry × List Text → Option A) where
  read_on : (o : Option (List Text)) → (o >>= λ ls. entries_by first second ls >>= go_on) ≡ ((o >>= entries_by first second) >>= go_on)
  read_on None = refl
  read_on (Some ls) = refl

  walked : (lines_at s at >>= λ ls. entries_by first second ls >>= go_on) ≡ (((lines_at s c >>= entries_by first second) >>= entries_before w.es) >>= go_on)
  walked = read_on (lines_at s at) ∙ ap (λ (o : Option (List Entry × List Text)). o >>= go_on) w.chain

  -- where the lines after them begin with no pair
  pub then_rest : Unkeyed first (lines_at s c) → (lines_at s at >>= λ ls. entries_by first second ls >>= go_on) ≡ (lines_at s c >>= λ ls. go_on (w.es ++ [], ls))
  then_rest u = walked ∙ go (lines_at s c) u
    where
      go : (o : Option (List Text)) → Unkeyed first o → (((o >>= entries_by first second) >>= entries_before w.es) >>= go_on) ≡ (o >>= λ ls. go_on (w.es ++ [], ls))
      go None u = refl
      go (Some ls) u = ap (λ (o : Option (List Entry × List Text)). (o >>= entries_before w.es) >>= go_on) (none_first first second ls u)

  -- where a second line is missing
  pub then_half : (lines_at s c >>= entries_by first second) ≡ None → (lines_at s at >>= λ ls. entries_by first second ls >>= go_on) ≡ None
  then_half h = walked ∙ ap (λ (o : Option (List Entry × List Text)). (o >>= entries_before w.es) >>= go_on) h

  pub then_end : length s ≤ c → (lines_at s at >>= λ ls. entries_by first second ls >>= go_on) ≡ go_on (w.es ++ [], [])
  unfolding entries_by
  then_end h = walked ∙ ap (λ (o : Option (List Text)). ((o >>= entries_by first second) >>= entries_before w.es) >>= go_on) (lines_end s c h)

-- what a walk's proof uses
pub ruleset walks = (pair_past, walk_turn)
