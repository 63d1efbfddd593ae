-- The schemes of a term one at a time: the i-th is made by dividing i by the counts of choices, in which the root's choice varies
-- fastest, then that of the last child; they are judged one after the other (01, "Reduction and variants": `schemes`, `complete`;
-- variants.rs).
use Rattle.std.specs.Prelude.{ℕ, zero, suc, ◌+◌, ◌/◌, ◌%◌, Bool, true, false, List, [], ◌∷◌, drop, Option, Some, None}
use Rattle.std.proofs.Math.ListN.{get_or}
use Rattle.rules.specs.Bytes.{Text}
use Rattle.rules.specs.Maybe.{◌>>=◌}
use Rattle.rules.specs.Tree.{Tree, variable, atom, apply, Trees, none, more}
use Rattle.rules.specs.Substitution.{Binding}
use Rattle.rules.specs.Sums.{equivalent}
use Rattle.rules.specs.Solving.{Verdict, solved, failed, unsupported, unify}
use Rattle.rules.specs.Reduction.{rule_named, normalize}
use Rattle.rules.specs.Variants.{Variant, instance_of, Scheme, scheme, Joined, join_first, root_schemes, schemes_from, firing_count, scheme_counts, system, generalized}

-- how many choices a root has: "stay", and its rule's
unfoldable pub root_count : Text → Trees → ℕ
unfolding rule_named
root_count f ts = 1 + firing_count (rule_named f) ts

-- by the names of the fresh variables
module _ (name : ℕ → Text) where
  -- the i-th choice at the root; "stay" is the first
  unfoldable pub root_at : Text → Joined → ℕ → Scheme
  unfolding root_schemes
  root_at f j i = get_or (root_schemes name f j) i (scheme (apply f j.values) j.equations j.next)

  unfoldable mutual
    unfolding root_count root_at scheme_counts

    pub scheme_at : Tree → ℕ → ℕ → Scheme
    scheme_at (variable x) n i = scheme (variable x) [] n
    scheme_at (atom c d) n i = scheme (atom c d) [] n
    scheme_at (apply f ts) n i = root_at f (joined_at ts n (i / root_count f ts)) (i % root_count f ts)

    pub joined_at : Trees → ℕ → ℕ → Joined
    joined_at none n i = record { values = none; equations = []; next = n }
    joined_at (more t ts) n i =
        let s = scheme_at t n (i / scheme_counts ts) in
        join_first s (joined_at ts s.next (i % scheme_counts ts))

module _ {A : Type 0} where
  -- what a function gives from 0 on, so many
  unfoldable pub listing : ℕ → (ℕ → A) → List A
  listing zero f = []
  listing (suc k) f = f 0 ∷ listing k (λ i. f (suc i))

-- Judging them

-- the answer of `complete` after some schemes: pending, or settled by one of them
pub data Judgement : Type 0 where
  pending : Judgement
  settled : Option Bool → Judgement

abbrev pub answered : Judgement → Option Bool
answered pending = Some true
answered (settled r) = r

-- whether an instance is normal, and whether some member generalizes it
abbrev pub judge_tests : Bool → Bool → Judgement
judge_tests false b = pending
judge_tests true true = pending
judge_tests true false = settled (Some false)

unfoldable pub judge_instance : List Text → List Variant → List Binding → Option Tree → Judgement
unfolding equivalent normalize generalized
judge_instance xs ms bs None = settled None
judge_instance xs ms bs (Some v) = judge_tests (equivalent v (normalize v)) (generalized xs ms bs v)

-- a solved scheme; the first that settles the answer counts
unfoldable pub judge : List Text → List Variant → List Binding → Tree → Judgement → Judgement
unfolding instance_of judge_instance
judge xs ms bs value pending = judge_instance xs ms bs (instance_of bs value)
judge xs ms bs value (settled r) = settled r

-- none where the scheme is unsupported
abbrev pub judge_verdict : List Text → List Variant → Tree → Verdict → Judgement → Option Judgement
judge_verdict xs ms value (solved bs) j = Some (judge xs ms bs value j)
judge_verdict xs ms value failed j = Some j
judge_verdict xs ms value unsupported j = None

-- the answer from such a judgement on, through these schemes
unfoldable pub judged : Tree → List Text → List Variant → List Scheme → Judgement → Option Bool
unfolding unify judge
judged term xs ms [] j = answered j
judged term xs ms (s ∷ ss) j = judge_verdict xs ms s.value (unify 65536 (system term s)).0 j >>= λ k. judged term xs ms ss k

-- through the term's schemes from the i-th on, by the names of the fresh variables
unfoldable pub judged_from : (ℕ → Text) → Tree → List Text → List Variant → ℕ → Judgement → Option Bool
unfolding schemes_from judged
judged_from name term xs ms i j = judged term xs ms (drop i (schemes_from name term 0)) j
