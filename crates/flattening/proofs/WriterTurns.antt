-- The turns of the writer of words, by the symbol that is read.
use Prim.Native.Nat.{ℕ}
use mathlib.Core.Path.{◌≡◌, refl}
use mathlib.Core.List.{List, [], ◌∷◌}
use Rattle.std.specs.Prelude.{Option, Some, None}
use Rattle.rules.specs.Bytes.{Text}
use Rattle.sheet.specs.declared.Place.{Place}
use Rattle.sheet.specs.Places.{word_of}
use Rattle.syntax.specs.declared.symbols.Symbol.{Symbol}
use Rattle.syntax.specs.declared.symbols.Symbol.TheVariants.{Begin, Shut, Comma, Name, Stop}
use Rattle.runs.specs.declared.TheConstants.{COMMA}
use Rattle.flattening.specs.Items.{Item, begin, shut, comma, name, item_before, items_by, Mode, wanting, naming, having, emits, adds, in_sum, opening, bracket, closing, write, writes}
use Rattle.flattening.specs.declared.brackets.Bracket.{Bracket}

-- ---- what is written from an item on

module _ (s : Text) where
  pub name_on : (x : ℕ) (o : Option (List Item)) (cs : List Bracket) → writes s (item_before (name x) o) wanting cs ≡ writes s o (naming x) cs
  unfolding write
  name_on x None cs = refl
  name_on x (Some is) cs = refl

  pub begin_on : (x : ℕ) (o : Option (List Item)) (cs : List Bracket)
      → writes s (item_before begin o) (naming x) cs ≡ emits (opening (bracket (adds s x) (in_sum cs)) x) (writes s o wanting (bracket (adds s x) (in_sum cs) ∷ cs))
  unfolding write
  begin_on x None cs = refl
  begin_on x (Some is) cs = refl

  pub shut_on : (o : Option (List Item)) (c : Bracket) (cs : List Bracket) → writes s (item_before shut o) having (c ∷ cs) ≡ emits (closing c) (writes s o having cs)
  unfolding write
  shut_on None c cs = refl
  shut_on (Some is) c cs = refl

  pub comma_on : (o : Option (List Item)) (c : Bracket) (cs : List Bracket) → writes s (item_before comma o) having (c ∷ cs) ≡ emits (COMMA ∷ []) (writes s o wanting (c ∷ cs))
  unfolding write
  comma_on None c cs = refl
  comma_on (Some is) c cs = refl

  -- an item that does not fit
  pub off : (i : Item) (m : Mode) (o : Option (List Item)) (cs : List Bracket) → ((is : List Item) → write s (i ∷ is) m cs ≡ None) → writes s (item_before i o) m cs ≡ None
  off i m None cs h = refl
  off i m (Some is) cs h = h is

  -- a symbol other than a name, where a term is wanted
  pub wanting_off : (f : ℕ → Option (List Item)) (cs : List Bracket) (q : Option Symbol) → ((p : Place) → q ≡ Some (Name p) → ⊥) → writes s (items_by q f) wanting cs ≡ None
  unfolding write
  wanting_off f cs (Some (Begin t)) h = off begin wanting (f t) cs (λ is. refl)
  wanting_off f cs (Some (Shut t)) h = off shut wanting (f t) cs (λ is. refl)
  wanting_off f cs (Some (Comma t)) h = off comma wanting (f t) cs (λ is. refl)
  wanting_off f cs (Some (Name p)) h = absurd (h p refl)
  wanting_off f cs (Some Stop) h = refl
  wanting_off f cs None h = refl

  -- a symbol other than a comma and a closing bracket, inside a list
  pub having_off : (f : ℕ → Option (List Item)) (c : Bracket) (cs : List Bracket) (q : Option Symbol) → ((t : ℕ) → q ≡ Some (Comma t) → ⊥) → ((t : ℕ) → q ≡ Some (Shut t) → ⊥) → writes s (items_by q f) having (c ∷ cs) ≡ None
  unfolding write
  having_off f c cs (Some (Begin t)) h k = off begin having (f t) (c ∷ cs) (λ is. refl)
  having_off f c cs (Some (Shut t)) h k = absurd (k t refl)
  having_off f c cs (Some (Comma t)) h k = absurd (h t refl)
  having_off f c cs (Some (Name p)) h k = off (name (word_of p)) having (f p.to) (c ∷ cs) (λ is. refl)
  having_off f c cs (Some Stop) h k = refl
  having_off f c cs None h k = refl

  -- a name that no bracket follows is a term
  alone : (i : Item) (x : ℕ) (o : Option (List Item)) (cs : List Bracket) → ((is : List Item) → write s (i ∷ is) (naming x) cs ≡ emits (x ∷ []) (write s (i ∷ is) having cs))
      → writes s (item_before i o) (naming x) cs ≡ emits (x ∷ []) (writes s (item_before i o) having cs)
  alone i x None cs h = refl
  alone i x (Some is) cs h = h is

  shut_alone : (x : ℕ) (cs : List Bracket) (is : List Item) → write s (shut ∷ is) (naming x) cs ≡ emits (x ∷ []) (write s (shut ∷ is) having cs)
  unfolding write
  shut_alone x [] is = refl
  shut_alone x (c ∷ cs) is = refl

  comma_alone : (x : ℕ) (cs : List Bracket) (is : List Item) → write s (comma ∷ is) (naming x) cs ≡ emits (x ∷ []) (write s (comma ∷ is) having cs)
  unfolding write
  comma_alone x [] is = refl
  comma_alone x (c ∷ cs) is = refl

  pub naming_on : (f : ℕ → Option (List Item)) (x : ℕ) (cs : List Bracket) (q : Option Symbol) → ((t : ℕ) → q ≡ Some (Begin t) → ⊥) → writes s (items_by q f) (naming x) cs ≡ emits (x ∷ []) (writes s (items_by q f) having cs)
  unfolding write
  naming_on f x cs (Some (Begin t)) h = absurd (h t refl)
  naming_on f x cs (Some (Shut t)) h = alone shut x (f t) cs (shut_alone x cs)
  naming_on f x cs (Some (Comma t)) h = alone comma x (f t) cs (comma_alone x cs)
  naming_on f x cs (Some (Name p)) h = alone (name (word_of p)) x (f p.to) cs (λ is. refl)
  naming_on f x cs (Some Stop) h = refl
  naming_on f x cs None h = refl
