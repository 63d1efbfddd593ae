-- Whether a member covers, from the trees that its entries give the variables.
use mathlib.Core.Path.{◌≡◌, refl, sym, ap, ◌∙◌}
use mathlib.Core.Bool.{Bool, true, false, ◌||◌, true≢false, or-false}
use mathlib.Core.List.{List, [], ◌∷◌, map}
use mathlib.Core.Logic.{◌⊎◌, inl, inr}
use Rattle.std.specs.Prelude.{Option, Some, None}
use Rattle.rules.specs.Bytes.{Text, same}
use Rattle.rules.specs.Text.{is_one_of}
use Rattle.rules.specs.Maybe.{◌>>=◌, every}
use Rattle.rules.specs.Tree.{Tree}
use Rattle.rules.specs.Substitution.{Binding, Pair, lookup}
use Rattle.rules.specs.Sheet.{Entry}
use Rattle.rules.specs.Cover.{general, covering, pair_at, covers}
use Rattle.laws.proofs.Basics.Tests.{or_left, or_right, or_cases, same_eq, same_self}
use Rattle.variables.specs.Listing.{backwards}
use Rattle.variables.specs.Pairing.{paired}
use Rattle.values.specs.Values.{value_in}

-- the order of a list does not matter to what is one of it
either : (a b c : Bool) → ((a || b) || c) ≡ (b || (a || c))
either true true c = refl
either true false c = refl
either false b c = refl

one_backwards : (xs l : List Text) (y : Text) → is_one_of (backwards xs l) y ≡ is_one_of xs y || is_one_of l y
unfolding is_one_of backwards
one_backwards [] l y = refl
one_backwards (x ∷ xs) l y = one_backwards xs (x ∷ l) y ∙ sym (either (same y x) (is_one_of xs y) (is_one_of l y))

pub one_listed : (xs : List Text) (y : Text) → is_one_of (backwards xs []) y ≡ is_one_of xs y
unfolding is_one_of
one_listed xs y = one_backwards xs [] y ∙ or-false (is_one_of xs y)

-- ---- one member

-- what a member gives a variable is what its entries give it
pub general_is : (v : Text) (es : List Entry) (x : Text) → general (v, es) x ≡ value_in es x
unfolding general value_in
general_is v es x = refl

module _ (v : Text) (es : List Entry) (bs : List Binding) where
  pair_by : (x : Text) {o : Option Tree} → value_in es x ≡ o → pair_at bs (v, es) x ≡ (o >>= λ g. Some (g, lookup bs x))
  unfolding pair_at
  pair_by x e = ap (λ (o : Option Tree). o >>= λ g. Some (g, lookup bs x)) (general_is v es x ∙ e)

  abbrev joined : Option Pair → Option (List Pair) → Option (List Pair)
  joined o os = o >>= λ a. os >>= λ rest. Some (a ∷ rest)

  no_rest : (o : Option Pair) → joined o None ≡ None
  no_rest None = refl
  no_rest (Some p) = refl

  -- all values are read
  pub pairs_every : (ms : List Binding) (xs : List Text) → ((x : Text) → is_one_of xs x ≡ true → value_in es x ≡ Some (lookup ms x)) → every (map (pair_at bs (v, es)) xs) ≡ Some (paired ms bs xs)
  unfolding every paired is_one_of
  pairs_every ms [] h = refl
  pairs_every ms (x ∷ xs) h =
      let first = pair_by x (h x (or_left (same x x) (is_one_of xs x) (same_self x))) in
      let rest = pairs_every ms xs (λ y o. h y (ap (λ (b : Bool). same y x || b) o ∙ or_right (same y x))) in
      ap (λ (o : Option Pair). joined o (every (map (pair_at bs (v, es)) xs))) first ∙ ap (joined (Some (lookup ms x, lookup bs x))) rest

  -- a value of a variable is unreadable
  pub pairs_none : (xs : List Text) (y : Text) → is_one_of xs y ≡ true → value_in es y ≡ None → every (map (pair_at bs (v, es)) xs) ≡ None
  unfolding every is_one_of
  pairs_none [] y o e = absurd (true≢false (sym o))
  pairs_none (x ∷ xs) y o e = go (or_cases (same y x) (is_one_of xs y) o) (pairs_none xs y)
    where
      go : (same y x ≡ true) ⊎ (is_one_of xs y ≡ true) → (is_one_of xs y ≡ true → value_in es y ≡ None → every (map (pair_at bs (v, es)) xs) ≡ None)
          → joined (pair_at bs (v, es) x) (every (map (pair_at bs (v, es)) xs)) ≡ None
      go (inl s) ih = ap (λ (o : Option Pair). joined o (every (map (pair_at bs (v, es)) xs))) (pair_by x (ap (value_in es) (sym (same_eq y x s)) ∙ e))
      go (inr t) ih = ap (joined (pair_at bs (v, es) x)) (ih t e) ∙ no_rest (pair_at bs (v, es) x)

  covers_by : (xs : List Text) {o : Option (List Pair)} → every (map (pair_at bs (v, es)) xs) ≡ o → covers xs bs (v, es) ≡ elim o [ None ↦ true | Some ps ↦ covering ps ]
  unfolding covers
  covers_by xs e = ap {B = Bool} (λ (o : Option (List Pair)). elim o [ None ↦ true | Some ps ↦ covering ps ]) e

  pub covers_read : (xs : List Text) (ps : List Pair) → every (map (pair_at bs (v, es)) xs) ≡ Some ps → covers xs bs (v, es) ≡ covering ps
  covers_read xs ps e = covers_by xs e

  pub covers_unread : (xs : List Text) → every (map (pair_at bs (v, es)) xs) ≡ None → covers xs bs (v, es) ≡ true
  covers_unread xs e = covers_by xs e
