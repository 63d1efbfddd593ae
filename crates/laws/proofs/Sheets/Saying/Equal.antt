-- Answered sheets of kind `equal`: yes exactly where the sides are equal up to order and grouping of sums.
use mathlib.Core.Path.{◌≡◌, sym, ◌∙◌}
use mathlib.Core.Logic.{◌↔◌}
use Rattle.std.specs.Prelude.{Some}
use Rattle.laws.proofs.Basics.Somes.{some_injective}
use Prim.Native.Nat.{ℕ}
use Rattle.rules.specs.Bytes.{Text, same}
use Rattle.rules.specs.Text.{bytes}
use Rattle.rules.specs.Tree.{Tree}
use Rattle.rules.specs.Sums.{canonical}
use Rattle.rules.specs.Equality.{Ac}
use Rattle.rules.specs.Grouping.{read_written, SameSums}
use Rattle.rules.specs.Reading.{parse, canonical_text}
use Rattle.rules.specs.Sheet.{asks_equal, read_sheet}
use Rattle.rules.specs.Answer.{answer_of}
use Rattle.rules.specs.Call.{passed, call}
use Rattle.rules.specs.Saying.{Says, Decides}
use Rattle.laws.proofs.Basics.Options.{bound}
use Rattle.laws.proofs.Basics.Tests.{same_eq, same_of_eq}
use Rattle.laws.proofs.Equality.Canonical.{canonical_sound, canonical_complete}
use Rattle.laws.proofs.Reading.Builds.{builds}
use Rattle.laws.proofs.Reading.SameText.{same_text}
use Rattle.laws.proofs.Reading.Closes.{writes}
use Rattle.laws.proofs.Reading.Written.{same_canonical, canonical_same, text_written, written_text}
use Rattle.laws.proofs.Sheets.Calls.{call_answer}
use Rattle.laws.proofs.Sheets.Saying.Claims.{test_decides, claim_says, says_also}

module _ (left right answer : Text) (e : answer_of (asks_equal left right) ≡ Some answer) where
  -- the sides have canonical texts; yes exactly where these are the same
  equal_texts : (l : Text) × (r : Text) × (canonical_text left ≡ Some l) × (canonical_text right ≡ Some r) × Says (bytes "equal=") (Decides (l ≡ r)) answer
  unfolding answer_of
  equal_texts =
      let (l, f, e₁) = bound (canonical_text left) _ answer e in
      let (r, g, e₂) = bound (canonical_text right) _ answer e₁ in (
        l,
        r,
        f,
        g,
        claim_says (bytes "equal=") (Decides (l ≡ r)) answer (Some (same l r)) (some_injective _ answer e₂)
            (test_decides (same l r) (λ z. same_of_eq z, λ z. same_eq l r z)),
      )

  -- what holds exactly where they are the same decides the answer
  equal_decides : (l r : Text) {P : Type 0} → canonical_text left ≡ Some l → canonical_text right ≡ Some r → (P ↔ (l ≡ r)) → Says (bytes "equal=") (Decides P) answer
  equal_decides l r f g h =
      let (x, y, f₁, g₁, k) = equal_texts in
      let p = some_injective x l (sym f₁ ∙ f) in
      let q = some_injective y r (sym g₁ ∙ g) in
      says_also (λ z. h.1 (sym p ∙ z ∙ q), λ z. p ∙ h.0 z ∙ sym q) k

module _ (s : Text) (words room : ℕ) (a : Text) (c : call s words room ≡ passed a) where
  pub equal_said : (left right : Text) → read_sheet s ≡ Some (asks_equal left right)
      → (t : Tree) × (u : Tree) × (read_written left ≡ Some t) × (read_written right ≡ Some u) × Says (bytes "equal=") (Decides (SameSums t u)) a
  equal_said left right h =
      let e = call_answer s words room (asks_equal left right) a h c in
      let (l, r, f, g, k) = equal_texts left right a e in
      let (t, m, p) = text_written left l f in
      let (u, n, q) = text_written right r g in (
        t,
        u,
        m,
        n,
        equal_decides left right a e (canonical t) (canonical u) (written_text left t m) (written_text right u n)
            (λ z. same_canonical z, λ z. canonical_same (writes left t m) (writes right u n) z),
      )

  pub equal_read_said : (left right : Text) → read_sheet s ≡ Some (asks_equal left right)
      → (t u : Tree) → parse left ≡ Some t → parse right ≡ Some u → Says (bytes "equal=") (Decides (Ac t u)) a
  equal_read_said left right h t u f g =
      equal_decides left right a (call_answer s words room (asks_equal left right) a h c) (canonical t) (canonical u) (same_text left t f) (same_text right u g)
      (λ z. canonical_sound z, λ z. canonical_complete (builds left t f) (builds right u g) z)
