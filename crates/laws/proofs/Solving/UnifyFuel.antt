-- A run of unify takes at most one pair for each node of its pairs, and 4,096 for each name: with more fuel than that, fuel does not
-- matter. A pair taken without a binding leaves fewer nodes; a binding takes its name away and leaves at most 4,096 nodes.
use Prim.Native.Nat.{ℕ, zero, suc, ◌+◌, ◌*◌, ◌≤◌, ◌<◌}
use native.Mathlib.Omega.{arith}
use mathlib.Core.Path.{◌≡◌, refl, ◌∙◌, ap}
use mathlib.Core.Bool.{true}
use mathlib.Core.List.{List, [], ◌∷◌}
use lib.ListN.{length}
use Rattle.rules.specs.Bytes.{Text}
use Rattle.rules.specs.Tree.{Tree, variable, Trees, none, more, size, sizes}
use Rattle.rules.specs.Substitution.{Pair, size_pairs}
use Rattle.rules.specs.Sums.{rebuild, equivalent}
use Rattle.rules.specs.Solving.{equation, remainder, cancel_sums, push_children, Step, goes_on, bind, fails, unknown, step, Answer, with_binding, after, run, finish, unify}
use Rattle.rules.specs.Inference.{Applies, of_atom, of_apply, SumsLeave, sums, Infers}
use Rattle.rules.specs.Tidy.{Built}
use Rattle.laws.specs.Memory.{without, OverPairs}
use Rattle.laws.proofs.Basics.Tests.{same_of_eq}
use Rattle.laws.proofs.Equality.Summands.{summands_built}
use Rattle.laws.proofs.Solving.Rules.{step_infers}
use Rattle.laws.proofs.Solving.OnlyRules.{cancels_only, applied_head, pairwise_only}
use Rattle.laws.proofs.Solving.Names.{StepOver, step_over}
use Rattle.laws.proofs.Solving.Weights.{size_some, sum_nodes}
use Rattle.laws.proofs.Sheets.BuiltRun.{BuiltPairs, BuiltStep, step_built}

-- One step

push_size : (ts us : Trees) (ps : List Pair) → size_pairs (push_children ts us ps) ≤ sizes ts + sizes us + size_pairs ps
unfolding push_children size_pairs size
push_size none us ps = omega arith
push_size (more t ts) none ps = omega arith
push_size (more t ts) (more u us) ps = omega (arith, push_size ts us ps)

applied_size : {t : Tree} {f : Text} {ts : Trees} → Applies t f ts → sizes ts < size t
unfolding size
applied_size of_atom = omega arith
applied_size of_apply = omega arith

sums_fewer : {l r : Tree} {ks os : List Tree} → Built l → Built r → SumsLeave l r ks os → (x y : Tree) → remainder true ks os ≡ equation x y
    → size x + size y < size l + size r
unfolding cancel_sums
sums_fewer {l} {r} bl br (sums a b n c) x y e =
    sum_nodes true equivalent l r bl br (same_of_eq (applied_head a)) (same_of_eq (applied_head b)) x y
    (ap (λ (z : List Tree × List Tree). remainder true z.0 z.1) (cancels_only (summands_built l bl) (summands_built r br) c) ∙ e)

-- a step that goes on leaves fewer nodes than it found
abbrev Fewer : ℕ → Step → Type 0
Fewer n (goes_on qs) = size_pairs qs < n
Fewer n (bind x v qs) = Unit {0}
Fewer n fails = Unit {0}
Fewer n unknown = Unit {0}

infers_fewer : {l r : Tree} {ps : List Pair} {s : Step} → Infers l r ps s → Built l → Built r → Fewer (size l + size r + size_pairs ps) s
unfolding size_pairs
infers_fewer (Infers.trivial {t} {ps}) bl br = omega (arith, size_some t)
infers_fewer (Infers.symbol_clash a b n) bl br = tt
infers_fewer (Infers.decomposition {ts = ts} {us = us} {ps = ps} a b m n w) bl br =
    omega (arith, push_size ts us ps, ap size_pairs (pairwise_only w), applied_size a, applied_size b)
infers_fewer (Infers.nothing_left {l} {r} {ps} c) bl br = omega (arith, size_some l)
infers_fewer (Infers.left_used_up c) bl br = tt
infers_fewer (Infers.right_used_up c) bl br = tt
infers_fewer (Infers.one_on_left {k = k} {o = o} {os = os} {ps = ps} c) bl br = omega (arith, sums_fewer bl br c k (rebuild o os) refl)
infers_fewer (Infers.one_on_right {k = k} {j = j} {o = o} {ks = ks} {ps = ps} c) bl br = omega (arith, sums_fewer bl br c (rebuild k (j ∷ ks)) o refl)
infers_fewer (Infers.natural_clash c n) bl br = tt
infers_fewer (Infers.several_left c n) bl br = tt
infers_fewer (Infers.unknown_sort e n) bl br = tt
infers_fewer (Infers.occurs_check e n m) bl br = tt
infers_fewer (Infers.variable_elimination k e h) bl br = tt
infers_fewer (Infers.over_limit k e h) bl br = tt
infers_fewer (Infers.orient {x} {t = t} {ps = ps} {a = s} a h) bl br = exchanged s (infers_fewer h br bl)
  where
    exchanged : (s : Step) → Fewer (size (variable x) + size t + size_pairs ps) s → Fewer (size t + size (variable x) + size_pairs ps) s
    exchanged (goes_on qs) k = omega arith
    exchanged (bind y v qs) k = tt
    exchanged fails k = tt
    exchanged unknown k = tt
infers_fewer (Infers.orient_variables k e o h) bl br = infers_fewer h br bl
infers_fewer (Infers.sort_clash k e n f) bl br = tt
infers_fewer (Infers.sort_undecided k e n f) bl br = tt

-- The run

after_alike : (ns : List Text) (n : ℕ) → 0 < n → (s : Step) → Fewer n s → StepOver ns s → BuiltStep s → (go far : List Pair → Answer)
    → ((ms : List Text) (qs : List Pair) → OverPairs ms qs → BuiltPairs qs → size_pairs qs + 4096 * length ms < n + 4096 * length ns → go qs ≡ far qs)
    → after s go ≡ after s far
after_alike ns n p (goes_on qs) l o b go far h = ap (λ (a : Answer). (a.0, 1 + a.1)) (h ns qs o b (omega arith))
after_alike ns n p (bind x v qs) l o b go far h =
    let i = o.limit in
    let j = o.fewer in
    ap (λ (a : Answer). (with_binding x v a.0, 1 + a.1)) (h (without x ns) qs o.waiting b.2 (omega arith))
after_alike ns n p fails l o b go far h = refl
after_alike ns n p unknown l o b go far h = refl

run_enough : (f g : ℕ) (ns : List Text) (ps : List Pair) → OverPairs ns ps → BuiltPairs ps → size_pairs ps + 4096 * length ns < f → size_pairs ps + 4096 * length ns < g
    → run f ps ≡ run g ps
unfolding run size_pairs
run_enough zero g ns ps o b h k = absurd (omega arith)
run_enough (suc f) zero ns ps o b h k = absurd (omega arith)
run_enough (suc f) (suc g) ns [] o b h k = refl
run_enough (suc f) (suc g) ns (p ∷ ps) o b h k =
    after_alike ns (size p.0 + size p.1 + size_pairs ps) (omega (arith, size_some p.0)) (step p.0 p.1 ps)
    (infers_fewer (step_infers ps b.0 b.1) b.0 b.1) (step_over ns p.0 p.1 ps o.0 o.1 o.2)
    (step_built p.0 p.1 ps b.0 b.1 b.2) (λ qs. run f qs) (λ qs. run g qs)
    (λ ms qs i j l. run_enough f g ms qs i j (omega arith) (omega arith))

pub unify_enough : (f g : ℕ) (ns : List Text) (ps : List Pair) → OverPairs ns ps → BuiltPairs ps
    → size_pairs ps + 4096 * length ns < f → size_pairs ps + 4096 * length ns < g → unify f ps ≡ unify g ps
unfolding unify
unify_enough f g ns ps o b h k = ap (λ (a : Answer). (finish a.0, a.1)) (run_enough f g ns ps o b h k)
