-- The items of a text are its tokens.
use Prim.Native.Nat.{ℕ, zero, suc, ◌+◌, ◌-◌, ◌<◌, ◌≤◌, ◌/◌, ◌%◌}
use mathlib.Core.Path.{◌≡◌, refl, sym, ap, ap₂, subst, ◌∙◌}
use mathlib.Core.Bool.{false}
use mathlib.Core.List.{List, [], ◌∷◌, map}
use Rattle.std.specs.Prelude.{Option, Some, None}
use lib.ListN.{length, take, drop, length-drop}
use lib.Seq.{get_or-take, get_or-drop, ext_get_or, length-take-le}
use native.Mathlib.Omega.{arith}
use Rattle.rules.specs.Bytes.{Text}
use Rattle.sheet.specs.declared.Place.{Place}
use Rattle.sheet.specs.Places.{word_of}
use Rattle.rules.specs.Text.{bytes, is_one_of}
use Rattle.rules.specs.Maybe.{◌>>=◌}
use Rattle.rules.specs.Tokens.{tokens}
use Rattle.syntax.specs.Next.{next_symbol}
use Rattle.syntax.specs.declared.symbols.Symbol.{Symbol}
use Rattle.syntax.specs.declared.symbols.Symbol.TheVariants.{Begin, Shut, Comma, Name, Stop}
use Rattle.syntax.proofs.TokenList.{joined as joined_token}
use Rattle.syntax.proofs.Meanings.{Names, Means, means}
use Rattle.runs.specs.Texts.{word_text}
use Rattle.flattening.specs.Items.{Item, begin, shut, comma, name, item_before, items_by, items, items_at}
use Rattle.runs.proofs.WordTexts.{text_place}

-- ---- more room for items changes nothing

items_enough_by : (s : Text) (at k m : ℕ) → ((to : ℕ) → at < to → to ≤ length s → items k s to ≡ items m s to) → (q : Option Symbol) → Means s at q → items_by q (items k s) ≡ items_by q (items m s)
items_enough_by s at k m h (Some (Begin to)) e = ap (item_before begin) (h to e.past e.within)
items_enough_by s at k m h (Some (Shut to)) e = ap (item_before shut) (h to e.past e.within)
items_enough_by s at k m h (Some (Comma to)) e = ap (item_before comma) (h to e.past e.within)
items_enough_by s at k m h (Some (Name place)) e =
    let p = e.past in
    let q = e.some_bytes in
    ap (item_before (name (word_of place))) (h place.to (omega arith) e.within)
items_enough_by s at k m h (Some Stop) e = refl
items_enough_by s at k m h None e = refl

items_enough : (s : Text) (k m at : ℕ) → length s - at < k → length s - at < m → items k s at ≡ items m s at
unfolding items
items_enough s zero m at p q = absurd (omega arith)
items_enough s (suc k) zero at p q = absurd (omega arith)
items_enough s (suc k) (suc m) at p q = items_enough_by s at k m (λ to u v. items_enough s k m to (omega arith) (omega arith)) (next_symbol s at) (means s at)

-- the items from a position on, by the next symbol
pub items_next : (s : Text) (at : ℕ) → items_at s at ≡ items_by (next_symbol s at) (items_at s)
unfolding items_at items
items_next s at = go (next_symbol s at) (means s at)
  where
    from : (to : ℕ) → at < to → to ≤ length s → items (length s - at) s to ≡ items_at s to
    from to u v = items_enough s (length s - at) (suc (length s - to)) to (omega arith) (omega arith)

    go : (q : Option Symbol) → Means s at q → items_by q (items (length s - at) s) ≡ items_by q (items_at s)
    go (Some (Begin to)) e = ap (item_before begin) (from to e.past e.within)
    go (Some (Shut to)) e = ap (item_before shut) (from to e.past e.within)
    go (Some (Comma to)) e = ap (item_before comma) (from to e.past e.within)
    go (Some (Name place)) e =
        let p = e.past in
        let q = e.some_bytes in
        ap (item_before (name (word_of place))) (from place.to (omega arith) e.within)
    go (Some Stop) e = refl
    go None e = refl

pub items_is : (s : Text) (at : ℕ) {r : Option Symbol} → r ≡ next_symbol s at → (q : Option Symbol) → r ≡ q → items_at s at ≡ items_by q (items_at s)
items_is s at e q f = items_next s at ∙ ap (λ (x : Option Symbol). items_by x (items_at s)) (sym e ∙ f)

-- ---- the texts of items

abbrev pub item_text : Text → Item → Text
item_text s begin = bytes "("
item_text s shut = bytes ")"
item_text s comma = bytes ","
item_text s (name x) = word_text s x

-- a name's word: a place of s that is no mark
pub record Named (s : Text) (x : ℕ) : Type 0 where
  pub long : 0 < x % 65536
  pub placed : x / 65536 + x % 65536 ≤ length s
  pub no_mark : is_one_of (bytes "(" ∷ bytes ")" ∷ bytes "," ∷ []) (word_text s x) ≡ false

pub data Proper (s : Text) : List Item → Type 0 where
  nothing : Proper s []
  begins : {is : List Item} → Proper s is → Proper s (begin ∷ is)
  shuts : {is : List Item} → Proper s is → Proper s (shut ∷ is)
  commas : {is : List Item} → Proper s is → Proper s (comma ∷ is)
  names : {x : ℕ} {is : List Item} → Named s x → Proper s is → Proper s (name x ∷ is)

-- the text of a place
pub place_text : (s : Text) (p : Place) → p.from < p.to → p.to < 65536 → word_text s (word_of p) ≡ take (p.to - p.from) (drop p.from s)
place_text s p a b =
    let m : word_of p % 65536 ≡ p.to - p.from = omega arith in
    let d : word_of p / 65536 ≡ p.from = omega arith in
    text_place s (word_of p) (λ e. omega arith) ∙ rw (m, d)

-- a place of the front of a text is one of the text
part_of_front : (to f n : ℕ) (s : Text) → f + n ≤ to → to ≤ length s → take n (drop f (take to s)) ≡ take n (drop f s)
part_of_front to f n s p q =
    let lt = length-take-le to s q in
    let d₁ = length-drop f (take to s) in
    let d₂ = length-drop f s in
    let e₁ : length (take n (drop f (take to s))) ≡ n = length-take-le n (drop f (take to s)) (omega arith) in
    let e₂ : length (take n (drop f s)) ≡ n = length-take-le n (drop f s) (omega arith) in
    ext_get_or 0 (take n (drop f (take to s))) (take n (drop f s)) (omega arith)
    (λ i m. (
    let y : i < n = omega arith in
    get_or-take n (drop f (take to s)) i 0 y ∙ get_or-drop f (take to s) i 0 ∙ get_or-take to s (f + i) 0 (omega arith)
    ∙ sym (get_or-take n (drop f s) i 0 y ∙ get_or-drop f s i 0)))

module _ (s : Text) (to : ℕ) (fits : to ≤ length s) (small : to < 65536) where
  name_text : (p : Place) → p.from < p.to → p.to ≤ to → word_text s (word_of p) ≡ take (p.to - p.from) (drop p.from (take to s))
  name_text p a b = place_text s p a (omega arith) ∙ sym (part_of_front to p.from (p.to - p.from) s (omega arith) fits)

  pub name_named : (at : ℕ) (p : Place) → Names (take to s) at p → Named s (word_of p)
  name_named at p e =
      let lt = length-take-le to s fits in
      let a = e.some_bytes in
      let b = e.within in
      record { long = omega arith; placed = omega arith; no_mark = rw (name_text p a (omega arith)) e.no_mark }

  -- the tokens from a position on are the texts of the items
  record Lexed (o : Option (List Item)) (ts : Option (List Text)) : Type 0 where
    same : ts ≡ (o >>= λ is. Some (map (item_text s) is))
    proper : (is : List Item) → o ≡ Some is → Proper s is

  lexed_before : (i : Item) (m : Text) {o : Option (List Item)} {ts : Option (List Text)} → item_text s i ≡ m → ((is : List Item) → Proper s is → Proper s (i ∷ is)) → Lexed o ts
      → Lexed (item_before i o) (joined_token m ts)
  lexed_before i m {o} {ts} e h l = record { same = ap₂ joined_token (sym e) l.same ∙ go o; proper = λ is f. which o l.proper is f }
    where
      go : (o : Option (List Item)) → joined_token (item_text s i) (o >>= λ is. Some (map (item_text s) is)) ≡ (item_before i o >>= λ is. Some (map (item_text s) is))
      go None = refl
      go (Some is) = refl

      which : (o : Option (List Item)) → ((is : List Item) → o ≡ Some is → Proper s is) → (is : List Item) → item_before i o ≡ Some is → Proper s is
      which None g is f = let z : ◌≡◌ {A = ℕ} 0 1 = cc in absurd (omega arith)
      which (Some js) g is f = let z : i ∷ js ≡ is = cc in subst (Proper s) z (h js (g js refl))

  lexed_by : (at k : ℕ) → ((t : ℕ) → at < t → t ≤ length (take to s) → Lexed (items k (take to s) t) (tokens (drop t (take to s)))) → (q : Option Symbol) → Means (take to s) at q
      → Lexed (items_by q (items k (take to s))) (tokens (drop at (take to s)))
  lexed_by at k h (Some (Begin t)) e = rw e.first (lexed_before begin (bytes "(") refl (λ is p. begins p) (h t e.past e.within))
  lexed_by at k h (Some (Shut t)) e = rw e.first (lexed_before shut (bytes ")") refl (λ is p. shuts p) (h t e.past e.within))
  lexed_by at k h (Some (Comma t)) e = rw e.first (lexed_before comma (bytes ",") refl (λ is p. commas p) (h t e.past e.within))
  lexed_by at k h (Some (Name p)) e =
      let lt = length-take-le to s fits in
      let a = e.past in
      let b = e.some_bytes in
      let c = e.within in
      rw e.first (lexed_before (name (word_of p)) (take (p.to - p.from) (drop p.from (take to s))) (name_text p b (omega arith)) (λ is q. names (name_named at p e) q) (h p.to (omega arith) c))
  lexed_by at k h (Some Stop) e = rw e (record { same = refl; proper = λ is f. (let z : [] ≡ is = cc in subst (Proper s) z nothing) })
  lexed_by at k h None e = rw e (record { same = refl; proper = λ is f. (let z : ◌≡◌ {A = ℕ} 0 1 = cc in absurd (omega arith)) })

  lexed_from : (k at : ℕ) → length (take to s) - at < k → Lexed (items k (take to s) at) (tokens (drop at (take to s)))
  unfolding items
  lexed_from zero at p = absurd (omega arith)
  lexed_from (suc k) at p = lexed_by at k (λ t u v. lexed_from k t (omega arith)) (next_symbol (take to s) at) (means (take to s) at)

  pub tokens_items : (at : ℕ) → tokens (drop at (take to s)) ≡ (items_at (take to s) at >>= λ is. Some (map (item_text s) is))
  unfolding items_at
  tokens_items at = (lexed_from (suc (length (take to s) - at)) at (omega arith)).same

  pub items_proper : (at : ℕ) (is : List Item) → items_at (take to s) at ≡ Some is → Proper s is
  unfolding items_at
  items_proper at is e = (lexed_from (suc (length (take to s) - at)) at (omega arith)).proper is e
