-- What the answers of cover mean.
use mathlib.Core.Path.{◌≡◌, refl, sym, ◌∙◌, ap, subst}
use mathlib.Core.Bool.{Bool, true, false, not, true≢false, false≢true}
use mathlib.Core.List.{List, [], ◌∷◌, map, Memᴰ}
use mathlib.Core.Logic.{◌↔◌}
use Rattle.std.specs.Prelude.{Option, Some, None}
use Rattle.laws.proofs.Basics.Somes.{some_injective, none_ne_some}
use Rattle.rules.specs.Bytes.{Text}
use Rattle.rules.specs.Maybe.{◌>>=◌, every}
use Rattle.rules.specs.Tree.{Tree, variable}
use Rattle.rules.specs.Substitution.{Binding, Pair, lookup}
use Rattle.rules.specs.Reading.{parse}
use Rattle.rules.specs.Sheet.{Member}
use Rattle.rules.specs.Solving.{Verdict, solved, failed, unsupported, unify}
use Rattle.rules.specs.Matching.{matcher}
use Rattle.rules.specs.Cover.{entry_at, general, is_failed, covering, pair_at, covers, any_covers, variables_of, covered}
use Rattle.rules.specs.Families.{Against, nil, next, Covers, at_unreadable, not_failed, CoveredMeans, not_solved, some_covers, none_covers}
use Rattle.laws.proofs.Basics.Options.{bound}

-- Verdicts

abbrev is_solved : Verdict → Bool
is_solved (solved bs) = true
is_solved failed = false
is_solved unsupported = false

pub is_failed_true : (v : Verdict) → is_failed v ≡ true → v ≡ failed
is_failed_true (solved bs) e = absurd (false≢true e)
is_failed_true failed e = refl
is_failed_true unsupported e = absurd (false≢true e)

-- everything but failed covers
pub covering_is : (ps : List Pair) → (covering ps ≡ true) ↔ (¬ ((matcher 65536 ps).0 ≡ failed))
unfolding covering
covering_is ps = (λ e f. true≢false (sym e ∙ ap (λ (v : Verdict). not (is_failed v)) f), λ h. go (is_failed (matcher 65536 ps).0) refl h)
  where
    go : (b : Bool) → is_failed (matcher 65536 ps).0 ≡ b → ¬ ((matcher 65536 ps).0 ≡ failed) → not b ≡ true
    go true e h = absurd (h (is_failed_true (matcher 65536 ps).0 e))
    go false e h = refl

-- One member

module _ (bs : List Binding) (m : Member) where
  pub paired : (xs : List Text) (ps : List Pair) → every (map (pair_at bs m) xs) ≡ Some ps → Against bs m xs ps
  unfolding every pair_at
  paired [] ps h = subst (Against bs m []) (some_injective [] ps h) nil
  paired (x ∷ xs) ps h =
      let (p, e, h₁) = bound (pair_at bs m x) _ ps h in
      let (g, f, e₁) = bound (general m x) (λ t. Some (t, lookup bs x)) p e in
      let (qs, i, h₂) = bound (every (map (pair_at bs m) xs)) (λ rs. Some (p ∷ rs)) ps h₁ in
      let k = subst (λ (q : Pair). Against bs m (x ∷ xs) (q ∷ qs)) (some_injective (g, lookup bs x) p e₁) (next f refl (paired xs qs i)) in
      subst (Against bs m (x ∷ xs)) (some_injective (p ∷ qs) ps h₂) k

  pairs_of : (xs : List Text) (ps : List Pair) → Against bs m xs ps → every (map (pair_at bs m) xs) ≡ Some ps
  unfolding every pair_at
  pairs_of [] ps nil = refl
  pairs_of (x ∷ xs) ps (next {g} {u} {ps = qs} f e a) =
      ap (λ (o : Option Tree). (◌>>=◌ {B = Pair} o (λ t. Some (t, lookup bs x))) >>= λ p. every (map (pair_at bs m) xs) >>= λ rs. Some (p ∷ rs)) f
      ∙ ap (λ (o : Option (List Pair)). o >>= λ rs. Some ((g, lookup bs x) ∷ rs)) (pairs_of xs qs a)
      ∙ ap (λ (t : Tree). Some ((g, t) ∷ qs)) e

  -- a text at a variable that does not read
  unread_at : (x : Text) → general m x ≡ None → (s : Text) × (entry_at m.1 x ≡ Some s) × (parse s ≡ None)
  unfolding general
  unread_at x h = go (entry_at m.1 x) h
    where
      go : (o : Option Text) → ◌≡◌ {A = Option Tree} (elim o [ None ↦ Some (variable x) | Some text ↦ parse text ]) None → (s : Text) × (o ≡ Some s) × (parse s ≡ None)
      go None k = absurd (none_ne_some (variable x) (sym k))
      go (Some s) k = (s, refl, k)

  general_unread : (x s : Text) → entry_at m.1 x ≡ Some s → parse s ≡ None → general m x ≡ None
  unfolding general
  general_unread x s e f = ap {B = Option Tree} (λ (o : Option Text). elim o [ None ↦ Some (variable x) | Some text ↦ parse text ]) e ∙ f

  abbrev at_value : Text → Tree → Option Pair
  at_value x t = Some (t, lookup bs x)

  some_unread : (xs : List Text) → every (map (pair_at bs m) xs) ≡ None → (x : Text) × Memᴰ x xs × (general m x ≡ None)
  unfolding every pair_at
  some_unread [] h = absurd (none_ne_some [] (sym h))
  some_unread (x ∷ xs) h = go (general m x) refl (every (map (pair_at bs m) xs)) refl h (some_unread xs)
    where
      go : (o : Option Tree) → general m x ≡ o → (r : Option (List Pair)) → every (map (pair_at bs m) xs) ≡ r → ((o >>= at_value x) >>= λ p. r >>= λ rs. Some (p ∷ rs)) ≡ None
          → (every (map (pair_at bs m) xs) ≡ None → (y : Text) × Memᴰ y xs × (general m y ≡ None)) → (y : Text) × Memᴰ y (x ∷ xs) × (general m y ≡ None)
      go None f r i k ih = (x, Memᴰ.head refl, f)
      go (Some t) f None i k ih = let (y, a, b) = ih i in (y, Memᴰ.tail a, b)
      go (Some t) f (Some rs) i k ih = absurd (none_ne_some ((t, lookup bs x) ∷ rs) (sym k))

  none_paired : (xs : List Text) (x : Text) → Memᴰ x xs → general m x ≡ None → every (map (pair_at bs m) xs) ≡ None
  unfolding every pair_at
  none_paired [] x x4 h = elim x4 [ ]
  none_paired (y ∷ xs) x (Memᴰ.head e) h =
      ap (λ (o : Option Tree). (o >>= at_value y) >>= λ p. every (map (pair_at bs m) xs) >>= λ rs. Some (p ∷ rs)) (ap (general m) (sym e) ∙ h)
  none_paired (y ∷ xs) x (Memᴰ.tail a) h =
      ap (λ (r : Option (List Pair)). (general m y >>= at_value y) >>= λ p. r >>= λ rs. Some (p ∷ rs)) (none_paired xs x a h) ∙ none_after (general m y >>= at_value y)
    where
      none_after : (o : Option Pair) → ◌>>=◌ {B = List Pair} o (λ p. None) ≡ None
      none_after None = refl
      none_after (Some p) = refl

  pub covers_is : (xs : List Text) → (covers xs bs m ≡ true) ↔ Covers xs bs m
  unfolding covers
  covers_is xs = (λ e. go (every (map (pair_at bs m) xs)) refl e, λ c. back c)
    where
      go : (o : Option (List Pair)) → every (map (pair_at bs m) xs) ≡ o → elim o [ None ↦ true | Some ps ↦ covering ps ] ≡ true → Covers xs bs m
      go None e k =
          let (x, a, h) = some_unread xs e in
          let (s, f, g) = unread_at x h in
          at_unreadable a f g
      go (Some ps) e k = not_failed (paired xs ps e) ((covering_is ps).0 k)

      back : Covers xs bs m → elim (every (map (pair_at bs m) xs)) [ None ↦ true | Some ps ↦ covering ps ] ≡ true
      back (at_unreadable {x} {s} a f g) =
          ap {B = Bool} (λ (o : Option (List Pair)). elim o [ None ↦ true | Some ps ↦ covering ps ]) (none_paired xs x a (general_unread x s f g))
      back (not_failed {ps} a h) =
          ap {B = Bool} (λ (o : Option (List Pair)). elim o [ None ↦ true | Some qs ↦ covering qs ]) (pairs_of xs ps a) ∙ (covering_is ps).1 h

-- Some member

module _ {A : Type 0} (test : A → Bool) where
  -- the first that passes ends the search
  unfoldable pub any : List A → Bool
  any [] = false
  any (a ∷ l) = elim (test a) [ true ↦ true | false ↦ any l ]

  pub any_some : (l : List A) → any l ≡ true → (a : A) × Memᴰ a l × (test a ≡ true)
  unfolding any
  any_some [] e = absurd (false≢true e)
  any_some (a ∷ l) e = go (test a) refl e (any_some l)
    where
      go : (b : Bool) → test a ≡ b → elim b [ true ↦ true | false ↦ any l ] ≡ true → (any l ≡ true → (c : A) × Memᴰ c l × (test c ≡ true))
          → (c : A) × Memᴰ c (a ∷ l) × (test c ≡ true)
      go true f k ih = (a, Memᴰ.head refl, f)
      go false f k ih = let (c, h, g) = ih k in (c, Memᴰ.tail h, g)

  pub some_any : (l : List A) (a : A) → Memᴰ a l → test a ≡ true → any l ≡ true
  unfolding any
  some_any [] a x'' h = elim x'' [ ]
  some_any (b ∷ l) a (Memᴰ.head e) h = ap {B = Bool} (λ (c : Bool). elim c [ true ↦ true | false ↦ any l ]) (ap test (sym e) ∙ h)
  some_any (b ∷ l) a (Memᴰ.tail k) h = go (test b) (some_any l a k h)
    where
      go : (c : Bool) → any l ≡ true → elim c [ true ↦ true | false ↦ any l ] ≡ true
      go true i = refl
      go false i = i

any_covers_is : (xs : List Text) (bs : List Binding) (ms : List Member) → any_covers xs bs ms ≡ any (covers xs bs) ms
unfolding any_covers any
any_covers_is xs bs [] = refl
any_covers_is xs bs (m ∷ ms) = ap {B = Bool} (λ (b : Bool). elim (covers xs bs m) [ true ↦ true | false ↦ b ]) (any_covers_is xs bs ms)

-- The answer

module _ (ps : List Pair) (ms : List Member) where
  solved_means : (bs : List Binding) → (unify 65536 ps).0 ≡ solved bs → CoveredMeans ps ms (Some (any_covers (variables_of ps) bs ms))
  solved_means bs e = go (any_covers (variables_of ps) bs ms) (sym (any_covers_is (variables_of ps) bs ms))
    where
      go : (b : Bool) → any (covers (variables_of ps) bs) ms ≡ b → CoveredMeans ps ms (Some b)
      go true f = let (m, h, g) = any_some (covers (variables_of ps) bs) ms f in some_covers e h ((covers_is bs m (variables_of ps)).0 g)
      go false f = none_covers e (λ m h c. true≢false (sym (some_any (covers (variables_of ps) bs) ms m h ((covers_is bs m (variables_of ps)).1 c)) ∙ f))

  abbrev answered : Verdict → Option Bool
  answered (solved bs) = Some (any_covers (variables_of ps) bs ms)
  answered failed = None
  answered unsupported = None

  covered_answered : covered ps ms ≡ answered (unify 65536 ps).0
  unfolding covered
  covered_answered = go (unify 65536 ps).0
    where
      go : (v : Verdict) → elim v [ solved bs ↦ Some (any_covers (variables_of ps) bs ms) | failed ↦ None | unsupported ↦ None ] ≡ answered v
      go (solved bs) = refl
      go failed = refl
      go unsupported = refl

  covered_view : CoveredMeans ps ms (answered (unify 65536 ps).0)
  covered_view = go (unify 65536 ps).0 refl
    where
      go : (v : Verdict) → (unify 65536 ps).0 ≡ v → CoveredMeans ps ms (answered v)
      go (solved bs) e = solved_means bs e
      go failed e = not_solved (λ bs f. let z : failed ≡ solved bs = sym e ∙ f in false≢true (ap is_solved z))
      go unsupported e = not_solved (λ bs f. let z : unsupported ≡ solved bs = sym e ∙ f in false≢true (ap is_solved z))

  only_covered : (r : Option Bool) → CoveredMeans ps ms r → answered (unify 65536 ps).0 ≡ r
  only_covered r (not_solved h) = go (unify 65536 ps).0 refl
    where
      go : (v : Verdict) → (unify 65536 ps).0 ≡ v → answered v ≡ None
      go (solved bs) e = absurd (h bs e)
      go failed e = refl
      go unsupported e = refl
  only_covered r (some_covers {bs} {m} e h c) =
      ap answered e ∙ ap Some (any_covers_is (variables_of ps) bs ms ∙ some_any (covers (variables_of ps) bs) ms m h ((covers_is bs m (variables_of ps)).1 c))
  only_covered r (none_covers {bs} e h) = ap answered e ∙ ap Some (any_covers_is (variables_of ps) bs ms ∙ go (any (covers (variables_of ps) bs) ms) refl)
    where
      go : (b : Bool) → any (covers (variables_of ps) bs) ms ≡ b → b ≡ false
      go true f = absurd (let (m, k, g) = any_some (covers (variables_of ps) bs) ms f in h m k ((covers_is bs m (variables_of ps)).0 g))
      go false f = refl

  pub covered_is : (r : Option Bool) → (covered ps ms ≡ r) ↔ CoveredMeans ps ms r
  covered_is r = (λ e. subst (CoveredMeans ps ms) (sym covered_answered ∙ e) covered_view, λ c. covered_answered ∙ only_covered r c)
