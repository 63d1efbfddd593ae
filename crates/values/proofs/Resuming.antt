-- What bindings and entries give a variable: an entry passed over, or put before the bindings.
use mathlib.Core.Path.{◌≡◌, refl, sym, ap, ap₂, ◌∙◌}
use mathlib.Core.Bool.{Bool, true, false, true≢false}
use mathlib.Core.List.{List, [], ◌∷◌}
use Rattle.std.specs.Prelude.{Option, Some, None}
use Rattle.rules.specs.Bytes.{Text, same}
use Rattle.rules.specs.Text.{is_one_of}
use Rattle.rules.specs.Tree.{Tree, variable}
use Rattle.rules.specs.Matching.{or_else, bound}
use Rattle.rules.specs.Reading.{parse}
use Rattle.rules.specs.Substitution.{Binding, pick, lookup}
use Rattle.rules.specs.Sheet.{Entry}
use Rattle.rules.specs.Cover.{entry_at}
use Rattle.laws.proofs.Basics.Tests.{same_eq, same_of_eq}
use Rattle.values.specs.Values.{value_in, resumed}

-- what entries give, by the test of the first key
module _ (e : Entry) (fs : List Entry) (y : Text) where
  entry_by : {b : Bool} → same e.0 y ≡ b → entry_at (e ∷ fs) y ≡ elim b [ true ↦ Some e.1 | false ↦ entry_at fs y ]
  unfolding entry_at
  entry_by h = ap {B = Option Text} (λ (b : Bool). elim b [ true ↦ Some e.1 | false ↦ entry_at fs y ]) h

  pub value_here : same e.0 y ≡ true → value_in (e ∷ fs) y ≡ parse e.1
  unfolding value_in
  value_here h = ap {B = Option Tree} (λ (o : Option Text). elim o [ None ↦ Some (variable y) | Some text ↦ parse text ]) (entry_by h)

  pub value_later : same e.0 y ≡ false → value_in (e ∷ fs) y ≡ value_in fs y
  unfolding value_in
  value_later h = ap {B = Option Tree} (λ (o : Option Text). elim o [ None ↦ Some (variable y) | Some text ↦ parse text ]) (entry_by h)

bound_by : (k y : Text) (t : Tree) (bs : List Binding) {b : Bool} → same k y ≡ b → bound y ((k, t) ∷ bs) ≡ or_else b t (bound y bs)
unfolding bound
bound_by k y t bs h = ap (λ (b : Bool). or_else b t (bound y bs)) h

-- a key that is none of the names is not one of them
other_name : (ns : List Text) (k y : Text) → is_one_of ns k ≡ false → is_one_of ns y ≡ true → same k y ≡ false
other_name ns k y e f = go (same k y) refl
  where
    go : (b : Bool) → same k y ≡ b → same k y ≡ false
    go true h = absurd (true≢false (sym (ap (is_one_of ns) (same_eq k y h) ∙ f) ∙ e))
    go false h = h

-- an entry before others, and bindings
module _ (its : Entry) (bs : List Binding) where
  -- the key is none of the names
  pub resumed_other : (ns : List Text) → is_one_of ns its.0 ≡ false → (fs : List Entry) (y : Text) → is_one_of ns y ≡ true → resumed (bound y bs) (value_in (its ∷ fs) y) ≡ resumed (bound y bs) (value_in fs y)
  resumed_other ns e fs y one = ap (resumed (bound y bs)) (value_later its fs y (other_name ns its.0 y e one))

  -- the key is bound
  pub resumed_bound : (t : Tree) → bound its.0 bs ≡ Some t → (fs : List Entry) (y : Text) → resumed (bound y bs) (value_in (its ∷ fs) y) ≡ resumed (bound y bs) (value_in fs y)
  resumed_bound t e fs y = go (same its.0 y) refl
    where
      go : (b : Bool) → same its.0 y ≡ b → resumed (bound y bs) (value_in (its ∷ fs) y) ≡ resumed (bound y bs) (value_in fs y)
      go true h =
          let f : bound y bs ≡ Some t = ap (λ (z : Text). bound z bs) (sym (same_eq its.0 y h)) ∙ e in
          ap (λ (o : Option Tree). resumed o (value_in (its ∷ fs) y)) f ∙ sym (ap (λ (o : Option Tree). resumed o (value_in fs y)) f)
      go false h = ap (resumed (bound y bs)) (value_later its fs y h)

  -- the key is not bound, and its value cannot be read, or is t
  pub resumed_unread : bound its.0 bs ≡ None → parse its.1 ≡ None → (fs : List Entry) → resumed (bound its.0 bs) (value_in (its ∷ fs) its.0) ≡ None
  resumed_unread e f fs = ap₂ resumed e (value_here its fs its.0 (same_of_eq refl) ∙ f)

  pub resumed_read : (t : Tree) → bound its.0 bs ≡ None → parse its.1 ≡ Some t → (fs : List Entry) (y : Text) → resumed (bound y bs) (value_in (its ∷ fs) y) ≡ resumed (bound y ((its.0, t) ∷ bs)) (value_in fs y)
  resumed_read t e f fs y = go (same its.0 y) refl
    where
      go : (b : Bool) → same its.0 y ≡ b → resumed (bound y bs) (value_in (its ∷ fs) y) ≡ resumed (bound y ((its.0, t) ∷ bs)) (value_in fs y)
      go true h =
          ap₂ resumed (ap (λ (z : Text). bound z bs) (sym (same_eq its.0 y h)) ∙ e) (value_here its fs y h ∙ f)
          ∙ sym (ap (λ (o : Option Tree). resumed o (value_in fs y)) (bound_by its.0 y t bs h))
      go false h = ap₂ resumed (sym (bound_by its.0 y t bs h)) (value_later its fs y h)

-- what is found, or else the variable itself, is what is looked up
pub resumed_lookup : (y : Text) (bs : List Binding) → resumed (bound y bs) (Some (variable y)) ≡ Some (lookup bs y)
unfolding bound lookup
resumed_lookup y [] = refl
resumed_lookup y (b ∷ bs) = go (same b.0 y) (resumed_lookup y bs)
  where
    go : (c : Bool) → resumed (bound y bs) (Some (variable y)) ≡ Some (lookup bs y) → resumed (or_else c b.1 (bound y bs)) (Some (variable y)) ≡ Some (pick c b.1 (lookup bs y))
    go true h = refl
    go false h = h
