-- A line that claims yes, no or none says so exactly where that is meant.
use mathlib.Core.Path.{◌≡◌, refl, sym, ◌∙◌, ap, subst}
use mathlib.Core.Bool.{Bool, true, false, false≢true}
use mathlib.Core.List.{[], ◌∷◌, ◌++◌, append_assoc}
use mathlib.Core.Logic.{◌↔◌, ◌⊎◌, inl, inr}
use Rattle.std.specs.Prelude.{Option, Some, None}
use native.Mathlib.Omega.{arith}
use lib.ListN.{length, length-append}
use Rattle.rules.specs.Bytes.{Text}
use Rattle.rules.specs.Text.{bytes}
use Rattle.rules.specs.Answer.{line, claim}
use Rattle.rules.specs.Saying.{Says, Decides, holds, fails}

abbrev ended : Option Bool → Text
ended r = claim r ++ (10 ∷ [])

-- the three lines differ in length
one_claim : (r q : Option Bool) → length (ended r) ≡ length (ended q) → r ≡ q
one_claim None None e = refl
one_claim None (Some true) e = absurd (omega arith)
one_claim None (Some false) e = absurd (omega arith)
one_claim (Some true) None e = absurd (omega arith)
one_claim (Some true) (Some true) e = refl
one_claim (Some true) (Some false) e = absurd (omega arith)
one_claim (Some false) None e = absurd (omega arith)
one_claim (Some false) (Some true) e = absurd (omega arith)
one_claim (Some false) (Some false) e = refl

module _ (key : Text) (Means : Option Bool → Type 0) (answer : Text) (r : Option Bool) (e : line key (claim r) ≡ answer) (means : (q : Option Bool) → (r ≡ q) ↔ Means q) where
  told : answer ≡ key ++ ended r
  told = sym e ∙ append_assoc key (claim r) (10 ∷ [])

  said : (q : Option Bool) → answer ≡ key ++ ended q → r ≡ q
  said q h =
      let k = ap length (sym told ∙ h) in
      one_claim r q (omega (arith, k, length-append key (ended r), length-append key (ended q)))

  exactly : (q : Option Bool) → (answer ≡ key ++ ended q) ↔ Means q
  exactly q = (λ h. (means q).0 (said q h), λ h. told ∙ ap (λ (z : Option Bool). key ++ ended z) ((means q).1 h))

  says_one_of : (q : Option Bool) → answer ≡ key ++ ended q → (answer ≡ key ++ bytes "yes\n") ⊎ (answer ≡ key ++ bytes "no\n") ⊎ (answer ≡ key ++ bytes "none\n")
  says_one_of None h = inr (inr h)
  says_one_of (Some true) h = inl h
  says_one_of (Some false) h = inr (inl h)

  pub claim_says : Says key Means answer
  claim_says = record { says_yes = exactly (Some true); says_no = exactly (Some false); says_none = exactly None; says_one = says_one_of r told }

-- a test decides
pub test_decides : (b : Bool) {P : Type 0} → (P ↔ (b ≡ true)) → (q : Option Bool) → (Some b ≡ q) ↔ Decides P q
test_decides b {P} h q = (λ e. subst (Decides P) e (go b h), back b h q)
  where
    go : (c : Bool) → (P ↔ (c ≡ true)) → Decides P (Some c)
    go true k = holds (k.1 refl)
    go false k = fails (λ p. false≢true (k.0 p))

    back : (c : Bool) → (P ↔ (c ≡ true)) → (q : Option Bool) → Decides P q → Some c ≡ q
    back c k None x' = elim x' [ ]
    back c k (Some true) (holds p) = ap Some (k.0 p)
    back true k (Some false) (fails n) = absurd (n (k.1 refl))
    back false k (Some false) (fails n) = refl

-- what holds exactly where another thing holds is decided alike
module _ {P Q : Type 0} (h : P ↔ Q) where
  decides_also : {q : Option Bool} → Decides P q → Decides Q q
  decides_also (holds p) = holds (h.0 p)
  decides_also (fails n) = fails (λ z. n (h.1 z))

pub says_also : {P Q : Type 0} → (P ↔ Q) → {key answer : Text} → Says key (Decides P) answer → Says key (Decides Q) answer
says_also h k = record {
  says_yes = (λ e. decides_also h (k.says_yes.0 e), λ d. k.says_yes.1 (decides_also (h.1, h.0) d));
  says_no = (λ e. decides_also h (k.says_no.0 e), λ d. k.says_no.1 (decides_also (h.1, h.0) d));
  says_none = (λ e. decides_also h (k.says_none.0 e), λ d. k.says_none.1 (decides_also (h.1, h.0) d));
  says_one = k.says_one;
}
