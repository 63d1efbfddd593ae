-- The cancelling of two sums whose summands are changed by functions that go through sums and keep the test: what is left is changed by
-- them. Renaming is such a function, and so is the one that changes nothing.
use mathlib.Core.Path.{◌≡◌, refl, sym, ◌∙◌, ap, ap₂}
use mathlib.Core.Bool.{Bool, true, false}
use mathlib.Core.List.{List, [], ◌∷◌, ◌++◌, map, map-append}
use Rattle.std.specs.Prelude.{Option, Some, None}
use Rattle.rules.specs.Bytes.{Text, same}
use Rattle.rules.specs.Tree.{Tree, variable, atom, apply, Trees, none, more, tamtplus, plus}
use Rattle.rules.specs.Substitution.{substitute}
use Rattle.rules.specs.Sums.{unless_sum, summands, summands_of, rebuild}
use Rattle.rules.specs.Solving.{Rest, emptied, mismatch, stuck, equation, keep, remove_at, remove, cancel_at, cancel, remainder, cancel_sums}
use Rattle.laws.proofs.Equality.Summands.{AllOf}
use Rattle.laws.proofs.Solving.Keeping.{AllMaybe, remove_keep}
use Rattle.laws.proofs.Renaming.Renamed.{rename, renames, mapped}

-- the function goes through sums
pub record OverSums (α : Tree → Tree) : Type 0 where
  pub at_plus : (a b : Tree) → α (plus a b) ≡ plus (α a) (α b)
  pub at_summands : (t : Tree) → summands (α t) ≡ map α (summands t)

rebuild_over : {α : Tree → Tree} → OverSums α → (t : Tree) (ts : List Tree) → rebuild (α t) (map α ts) ≡ α (rebuild t ts)
unfolding rebuild
rebuild_over s t [] = refl
rebuild_over {α} s t (u ∷ us) = ap (plus (α t)) (rebuild_over s u us) ∙ sym (s.at_plus t (rebuild u us))

abbrev pub rest_map : (Tree → Tree) → (Tree → Tree) → Rest → Rest
rest_map α β emptied = emptied
rest_map α β mismatch = mismatch
rest_map α β stuck = stuck
rest_map α β (equation a b) = equation (α a) (β b)

-- α on the left, β on the right; the test is kept on trees with the properties P and Q
module _ (α β : Tree → Tree) (P Q : Tree → Type 0) (test : Tree → Tree → Bool)
    (agrees : (t u : Tree) → P t → Q u → test (α t) (β u) ≡ test t u) where
  remove_over : (t : Tree) (us : List Tree) → P t → AllOf Q us → remove test (α t) (map β us) ≡ mapped (map β) (remove test t us)
  unfolding remove
  remove_over t [] p q = refl
  remove_over t (u ∷ us) p q =
      ap₂ (λ (b : Bool) (o : Option (List Tree)). remove_at b (β u) (map β us) o) (agrees t u p q.0) (remove_over t us p q.1)
      ∙ go (test t u) (remove test t us)
    where
      kept : (o : Option (List Tree)) → keep (β u) (mapped (map β) o) ≡ mapped (map β) (keep u o)
      kept None = refl
      kept (Some vs) = refl

      go : (b : Bool) (o : Option (List Tree)) → remove_at b (β u) (map β us) (mapped (map β) o) ≡ mapped (map β) (remove_at b u us o)
      go true o = refl
      go false o = kept o

  abbrev both_lists : List Tree × List Tree → List Tree × List Tree
  both_lists c = (map α c.0, map β c.1)

  cancel_over : (ts us : List Tree) → AllOf P ts → AllOf Q us → cancel test (map α ts) (map β us) ≡ both_lists (cancel test ts us)
  unfolding cancel
  cancel_over [] us p q = refl
  cancel_over (t ∷ ts) us p q =
      ap (λ (o : Option (List Tree)). cancel_at o (α t) (λ vs. cancel test (map α ts) vs) (map β us)) (remove_over t us p.0 q)
      ∙ go (remove test t us) (remove_keep Q test t us q) (λ vs m. cancel_over ts vs p.1 m)
    where
      go : (o : Option (List Tree)) → AllMaybe Q o → ((vs : List Tree) → AllOf Q vs → cancel test (map α ts) (map β vs) ≡ both_lists (cancel test ts vs))
          → cancel_at (mapped (map β) o) (α t) (λ vs. cancel test (map α ts) vs) (map β us) ≡ both_lists (cancel_at o t (λ vs. cancel test ts vs) us)
      go None m k = ap (λ (c : List Tree × List Tree). (α t ∷ c.0, c.1)) (k us q)
      go (Some vs) m k = k vs m

  module _ (sα : OverSums α) (sβ : OverSums β) where
    remainder_over : (b : Bool) (ks os : List Tree) → remainder b (map α ks) (map β os) ≡ rest_map α β (remainder b ks os)
    remainder_over b [] [] = refl
    remainder_over b [] (o ∷ os) = refl
    remainder_over b (k ∷ ks) [] = refl
    remainder_over b (k ∷ []) (o ∷ os) = ap (equation (α k)) (rebuild_over sβ o os)
    remainder_over true (k ∷ j ∷ ks) (o ∷ []) = ap (λ (t : Tree). equation t (β o)) (rebuild_over sα k (j ∷ ks))
    remainder_over false (k ∷ j ∷ ks) (o ∷ []) = refl
    remainder_over true (k ∷ j ∷ ks) (o ∷ p ∷ os) = refl
    remainder_over false (k ∷ j ∷ ks) (o ∷ p ∷ os) = refl

    pub sums_over : (b : Bool) (t u : Tree) → AllOf P (summands t) → AllOf Q (summands u)
        → cancel_sums b test (α t) (β u) ≡ rest_map α β (cancel_sums b test t u)
    unfolding cancel_sums
    sums_over b t u p q =
        ap₂ (λ (ts us : List Tree). let c = cancel test ts us in remainder b c.0 c.1) (sα.at_summands t) (sβ.at_summands u)
        ∙ ap (λ (c : List Tree × List Tree). remainder b c.0 c.1) (cancel_over (summands t) (summands u) p q)
        ∙ remainder_over b (cancel test (summands t) (summands u)).0 (cancel test (summands t) (summands u)).1

-- the identity

map_same : (ts : List Tree) → ts ≡ map (λ t. t) ts
map_same [] = refl
map_same (t ∷ ts) = ap (λ (us : List Tree). t ∷ us) (map_same ts)

pub identity_over : OverSums (λ t. t)
identity_over = record { at_plus = λ a b. refl; at_summands = λ t. map_same (summands t) }

-- renaming

module _ (r : Text → Text) where
  mutual
    unfolding summands substitute

    summands_renamed : (t : Tree) → summands (rename r t) ≡ map (rename r) (summands t)
    summands_renamed (variable x) = refl
    summands_renamed (atom c d) = refl
    summands_renamed (apply f ts) =
        ap (λ (us : List Tree). unless_sum (same f tamtplus) us (apply f (renames r ts))) (all_renamed ts) ∙ unless (same f tamtplus)
      where
        unless : (b : Bool) → unless_sum b (map (rename r) (summands_of ts)) (apply f (renames r ts)) ≡ map (rename r) (unless_sum b (summands_of ts) (apply f ts))
        unless true = refl
        unless false = refl

    all_renamed : (ts : Trees) → summands_of (renames r ts) ≡ map (rename r) (summands_of ts)
    all_renamed none = refl
    all_renamed (more t ts) = ap₂ ◌++◌ (summands_renamed t) (all_renamed ts) ∙ sym (map-append (rename r) (summands t) (summands_of ts))

  pub renaming_over : OverSums (rename r)
  unfolding substitute
  renaming_over = record { at_plus = λ a b. refl; at_summands = summands_renamed }
