-- Members read where all their texts do; the trees that they give are as reading builds them.
use mathlib.Core.Path.{◌≡◌, refl, sym, ◌∙◌, ap, subst}
use mathlib.Core.List.{List, [], ◌∷◌, ◌++◌, map, append-nil}
use Rattle.std.specs.Prelude.{Option, Some, None}
use Rattle.laws.proofs.Basics.Somes.{some_injective, none_ne_some}
use Rattle.rules.specs.Bytes.{Text}
use Rattle.rules.specs.Maybe.{◌>>=◌, every}
use Rattle.rules.specs.Tree.{Tree}
use Rattle.rules.specs.Substitution.{Binding, lookup, instantiate}
use Rattle.rules.specs.Reading.{parse}
use Rattle.rules.specs.Sheet.{Entry, Member, entry_values, member_texts}
use Rattle.rules.specs.Variants.{Variant, read_entry, read_member}
use Rattle.rules.specs.Tidy.{Built}
use Rattle.rules.specs.Families.{Unreadable, this, later}
use Rattle.laws.proofs.Basics.Options.{bound}
use Rattle.laws.proofs.Reading.Builds.{builds}
use Rattle.laws.proofs.Sheets.BuiltRun.{BuiltValues, substitute_built, value_built}

unreadable_left : (ss us : List Text) → Unreadable ss → Unreadable (ss ++ us)
unreadable_left [] us x' = elim x' [ ]
unreadable_left (s ∷ ss) us (this e) = this e
unreadable_left (s ∷ ss) us (later h) = later (unreadable_left ss us h)

unreadable_right : (ss us : List Text) → Unreadable us → Unreadable (ss ++ us)
unreadable_right [] us h = h
unreadable_right (s ∷ ss) us h = later (unreadable_right ss us h)

-- Lists of readings, of which each is none exactly where its texts are unreadable
module _ {A B : Type 0} (read : A → Option B) (texts : A → List Text) where
  abbrev ReadsAt : A → Type 0
  ReadsAt a = (read a ≡ None → Unreadable (texts a)) × (Unreadable (texts a) → read a ≡ None)

  abbrev all_texts : List A → List Text
  all_texts [] = []
  all_texts (a ∷ l) = texts a ++ all_texts l

  every_unread : ((a : A) → ReadsAt a) → (l : List A) → every (map read l) ≡ None → Unreadable (all_texts l)
  unfolding every
  every_unread h [] e = absurd (none_ne_some [] (sym e))
  every_unread h (a ∷ l) e = go (read a) refl e (every_unread h l)
    where
      rest : (b : B) (o : Option (List B)) → (o >>= λ bs. Some (b ∷ bs)) ≡ None → o ≡ None
      rest b None k = refl
      rest b (Some bs) k = absurd (none_ne_some (b ∷ bs) (sym k))

      go : (o : Option B) → read a ≡ o → (o >>= λ b. every (map read l) >>= λ bs. Some (b ∷ bs)) ≡ None → (every (map read l) ≡ None → Unreadable (all_texts l))
          → Unreadable (texts a ++ all_texts l)
      go None f k ih = unreadable_left (texts a) (all_texts l) ((h a).0 f)
      go (Some b) f k ih = unreadable_right (texts a) (all_texts l) (ih (rest b (every (map read l)) k))

unreadable_cases : (P : Type 0) (ss us : List Text) → Unreadable (ss ++ us) → (Unreadable ss → P) → (Unreadable us → P) → P
unreadable_cases P [] us h f g = g h
unreadable_cases P (s ∷ ss) us (this e) f g = f (this e)
unreadable_cases P (s ∷ ss) us (later h) f g = unreadable_cases P ss us h (λ k. f (later k)) g

module _ {A B : Type 0} (read : A → Option B) (texts : A → List Text) where
  unread_every : ((a : A) → ReadsAt read texts a) → (l : List A) → Unreadable (all_texts read texts l) → every (map read l) ≡ None
  unfolding every
  unread_every h [] u = elim u [ ]
  unread_every h (a ∷ l) u =
      unreadable_cases (every (map read (a ∷ l)) ≡ None) (texts a) (all_texts read texts l) u
      (λ k. ap (λ (o : Option B). o >>= λ b. every (map read l) >>= λ bs. Some (b ∷ bs)) ((h a).1 k))
      (λ k. ap (λ (o : Option (List B)). read a >>= λ b. o >>= λ bs. Some (b ∷ bs)) (unread_every h l k) ∙ none_after (read a))
    where
      none_after : (o : Option B) → ◌>>=◌ {B = List B} o (λ b. None) ≡ None
      none_after None = refl
      none_after (Some b) = refl

-- Entries and members

abbrev named : Entry → Tree → Option Binding
named e t = Some (e.0, t)

abbrev variant : Tree → List Binding → Option Variant
variant t bs = Some (t, bs)

parse_reads : (e : Entry) → ReadsAt read_entry (λ f. f.1 ∷ []) e
unfolding read_entry
parse_reads e = (λ h. this (unread (parse e.1) h), λ u. read_none u)
  where
    unread : (o : Option Tree) → (o >>= named e) ≡ None → o ≡ None
    unread None h = refl
    unread (Some t) h = absurd (none_ne_some (e.0, t) (sym h))

    read_none : Unreadable (e.1 ∷ []) → (parse e.1 >>= named e) ≡ None
    read_none (later x3) = elim x3 [ ]
    read_none (this h) = ap (λ (o : Option Tree). o >>= named e) h

values_texts : (es : List Entry) → all_texts read_entry (λ e. e.1 ∷ []) es ≡ entry_values es
unfolding entry_values
values_texts [] = refl
values_texts (e ∷ es) = ap (λ (ss : List Text). e.1 ∷ ss) (values_texts es)

abbrev own_texts : Member → List Text
own_texts m = m.0 ∷ entry_values m.1

member_reads : (m : Member) → ReadsAt read_member own_texts m
unfolding read_member
member_reads m = (λ h. unread (parse m.0) (every (map read_entry m.1)) refl refl h, λ u. read_none u)
  where
    unread : (o : Option Tree) (p : Option (List Binding)) → parse m.0 ≡ o → every (map read_entry m.1) ≡ p
        → (o >>= λ t. p >>= variant t) ≡ None → Unreadable (own_texts m)
    unread None p e f h = this e
    unread (Some t) None e f h = later (subst Unreadable (values_texts m.1) (every_unread read_entry (λ g. g.1 ∷ []) parse_reads m.1 f))
    unread (Some t) (Some bs) e f h = absurd (none_ne_some (t, bs) (sym h))

    none_after : (o : Option Tree) → ◌>>=◌ {B = Variant} o (λ t. None) ≡ None
    none_after None = refl
    none_after (Some t) = refl

    read_none : Unreadable (own_texts m) → (parse m.0 >>= λ t. every (map read_entry m.1) >>= variant t) ≡ None
    read_none (this e) = ap (λ (o : Option Tree). o >>= λ t. every (map read_entry m.1) >>= variant t) e
    read_none (later u) =
        ap (λ (p : Option (List Binding)). parse m.0 >>= λ t. p >>= variant t)
        (unread_every read_entry (λ g. g.1 ∷ []) parse_reads m.1 (subst Unreadable (sym (values_texts m.1)) u))
        ∙ none_after (parse m.0)

members_texts : (ms : List Member) → all_texts read_member own_texts ms ≡ member_texts ms
unfolding member_texts
members_texts [] = refl
members_texts (m ∷ ms) = ap (λ (ss : List Text). m.0 ∷ (entry_values m.1 ++ ss)) (members_texts ms)

-- the members read, or one of their texts does not
pub members_unread : (ms : List Member) → every (map read_member ms) ≡ None → Unreadable (member_texts ms)
members_unread ms h = subst Unreadable (members_texts ms) (every_unread read_member own_texts member_reads ms h)

pub unread_members : (ms : List Member) → Unreadable (member_texts ms) → every (map read_member ms) ≡ None
unread_members ms u = unread_every read_member own_texts member_reads ms (subst Unreadable (sym (members_texts ms)) u)

one_text : (m : Member) → member_texts (m ∷ []) ≡ own_texts m
unfolding member_texts
one_text m = ap (λ (ss : List Text). m.0 ∷ ss) (append-nil (entry_values m.1))

pub member_unread : (m : Member) → read_member m ≡ None → Unreadable (member_texts (m ∷ []))
member_unread m h = subst Unreadable (sym (one_text m)) ((member_reads m).0 h)

pub unread_member : (m : Member) → Unreadable (member_texts (m ∷ [])) → read_member m ≡ None
unread_member m u = (member_reads m).1 (subst Unreadable (one_text m) u)

-- What is read is built

entries_built : (es : List Entry) (bs : List Binding) → every (map read_entry es) ≡ Some bs → BuiltValues bs
unfolding every read_entry
entries_built [] bs h = subst BuiltValues (some_injective [] bs h) tt
entries_built (e ∷ es) bs h =
    let (b, f, h₁) = bound (parse e.1 >>= λ t. Some (e.0, t)) _ bs h in
    let (t, g, f₁) = bound (parse e.1) (λ u. Some (e.0, u)) b f in
    let (cs, i, h₂) = bound (every (map read_entry es)) _ bs h₁ in
    let k = ap (λ (z : Binding). z.1) (some_injective (e.0, t) b f₁) in
    subst BuiltValues (some_injective (b ∷ cs) bs h₂) (subst Built k (builds e.1 t g), entries_built es cs i)

-- a member's term, and the instance of a term under its bindings
pub member_built : (m : Member) (v : Variant) → read_member m ≡ Some v → Built v.0 × ((t : Tree) → Built t → Built (instantiate v.1 t))
unfolding read_member
member_built m v h =
    let (t, e, h₁) = bound (parse m.0) _ v h in
    let (bs, f, h₂) = bound (every (map read_entry m.1)) (λ cs. Some (t, cs)) v h₁ in
    subst (λ (w : Variant). Built w.0 × ((u : Tree) → Built u → Built (instantiate w.1 u))) (some_injective (t, bs) v h₂)
    (builds m.0 t e, λ u b. substitute_built (lookup bs) (value_built bs (entries_built m.1 bs f)) b)
