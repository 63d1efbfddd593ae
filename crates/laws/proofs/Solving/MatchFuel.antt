-- A match takes at most one pair for each node of its patterns: with more fuel than that, fuel does not matter.
use Prim.Native.Nat.{ℕ, zero, suc, ◌+◌, ◌≤◌, ◌<◌}
use native.Mathlib.Omega.{arith}
use mathlib.Core.Path.{◌≡◌, refl, sym, ap, subst}
use mathlib.Core.Bool.{Bool, true, false, false≢true}
use mathlib.Core.List.{List, [], ◌∷◌}
use Rattle.std.specs.Prelude.{Option, Some, None}
use lib.Dec.{eqb}
use Rattle.rules.specs.Bytes.{Text, same}
use Rattle.rules.specs.Tree.{Tree, variable, atom, apply, Trees, none, more, head, children, size, sizes, tamtplus}
use Rattle.rules.specs.Substitution.{Binding, Pair}
use Rattle.rules.specs.Sums.{unless_sum, summands, summands_of, equivalent}
use Rattle.rules.specs.declared.Sort.{Sort}
use Rattle.rules.specs.Sorts.{variable_sort, sorted}
use Rattle.rules.specs.Solving.{Answer, Rest, emptied, mismatch, stuck, equation, cancel, remainder, cancel_sums, push_children}
use Rattle.rules.specs.Matching.{Move, onward, clash, beyond, bound, agree, bind_new, sort_new, match_key, match_rest, ground_eq, match_at, match_roots, move, moved, matching, matcher}
use Rattle.laws.specs.Memory.{pattern_nodes}
use Rattle.laws.proofs.Basics.Tests.{and_right}
use Rattle.laws.proofs.Equality.Summands.{AllOf}
use Rattle.laws.proofs.Solving.Keeping.{cancel_keep}
use Rattle.laws.proofs.Solving.Weights.{Upto, summands_of_upto}

-- Children

push_nodes : (ts us : Trees) (ps : List Pair) → pattern_nodes (push_children ts us ps) ≤ sizes ts + pattern_nodes ps
unfolding push_children pattern_nodes size
push_nodes none us ps = omega arith
push_nodes (more t ts) none ps = omega arith
push_nodes (more t ts) (more u us) ps = omega (arith, push_nodes ts us ps)

children_nodes : (t : Tree) → sizes (children t) + 1 ≡ size t
unfolding children size
children_nodes (variable x) = refl
children_nodes (atom c d) = refl
children_nodes (apply f ts) = omega arith

-- Sums: the one summand that is left is a part of the pattern

abbrev Any : Tree → Type 0
Any t = Unit {0}

all_any : (ts : List Tree) → AllOf Any ts
all_any [] = tt
all_any (t ∷ ts) = (tt, all_any ts)

abbrev UptoRest : ℕ → Rest → Type 0
UptoRest n emptied = Unit {0}
UptoRest n mismatch = Unit {0}
UptoRest n stuck = Unit {0}
UptoRest n (equation a b) = size a ≤ n

remainder_upto : (n : ℕ) (ks os : List Tree) → AllOf (Upto n) ks → UptoRest n (remainder false ks os)
remainder_upto n [] [] h = tt
remainder_upto n [] (o ∷ os) h = tt
remainder_upto n (k ∷ ks) [] h = tt
remainder_upto n (k ∷ []) (o ∷ os) h = h.0
remainder_upto n (k ∷ j ∷ ks) (o ∷ []) h = tt
remainder_upto n (k ∷ j ∷ ks) (o ∷ p ∷ os) h = tt

part_upto : (f : Text) (ts : Trees) → same f tamtplus ≡ true → AllOf (Upto (sizes ts)) (summands (apply f ts))
unfolding summands
part_upto f ts e = subst (λ (b : Bool). AllOf (Upto (sizes ts)) (unless_sum b (summands_of ts) (apply f ts))) (sym e) (summands_of_upto ts)

sum_upto : (test : Tree → Tree → Bool) (t u : Tree) → AllOf (Upto (sizes (children t))) (summands t) → UptoRest (sizes (children t)) (cancel_sums false test t u)
unfolding cancel_sums
sum_upto test t u h =
    let c = cancel_keep (Upto (sizes (children t))) Any test (summands t) (summands u) h (all_any (summands u)) in
    remainder_upto (sizes (children t)) (cancel test (summands t) (summands u)).0 (cancel test (summands t) (summands u)).1 c.0

-- One move

-- a move that goes on leaves fewer pattern nodes
abbrev Fewer : ℕ → Move → Type 0
Fewer n (onward qs cs) = pattern_nodes qs < n
Fewer n clash = Unit {0}
Fewer n beyond = Unit {0}

key_fewer : (x : Text) (u : Tree) (ps : List Pair) (bs : List Binding) (o : Option Tree) → Fewer (1 + pattern_nodes ps) (match_key o x u ps bs)
key_fewer x u ps bs (Some v) = go (equivalent v u)
  where
    go : (c : Bool) → Fewer (1 + pattern_nodes ps) (agree c ps bs)
    go true = omega arith
    go false = tt
key_fewer x u ps bs None = for (variable_sort x)
  where
    new : (c : Bool) → Fewer (1 + pattern_nodes ps) (bind_new c x u ps bs)
    new true = omega arith
    new false = tt

    for : (o : Option Sort) → Fewer (1 + pattern_nodes ps) (sort_new o x u ps bs)
    for None = tt
    for (Some s) = new (sorted s u)

roots_fewer : (t u : Tree) (ps : List Pair) (bs : List Binding) → (same (head t) tamtplus ≡ true → AllOf (Upto (sizes (children t))) (summands t))
    → Fewer (size t + pattern_nodes ps) (match_roots t u ps bs)
unfolding match_roots pattern_nodes
roots_fewer t u ps bs h = go (same (head t) (head u)) (same (head t) tamtplus) refl
  where
    rest : (w : Rest) → UptoRest (sizes (children t)) w → Fewer (size t + pattern_nodes ps) (match_rest w ps bs)
    rest emptied m = omega (arith, children_nodes t)
    rest mismatch m = tt
    rest (equation a b) m = omega (arith, children_nodes t)
    rest stuck m = tt

    go : (b c : Bool) → same (head t) tamtplus ≡ c → Fewer (size t + pattern_nodes ps) (match_at b c t u ps bs)
    go false c e = tt
    go true true e = rest (cancel_sums false ground_eq t u) (sum_upto ground_eq t u (h e))
    go true false e = omega (arith, children_nodes t, push_nodes (children t) (children u) ps)

move_fewer : (t u : Tree) (ps : List Pair) (bs : List Binding) → Fewer (size t + pattern_nodes ps) (move t u ps bs)
unfolding move size head children same
move_fewer (variable x) u ps bs = key_fewer x u ps bs (bound x bs)
move_fewer (atom c d) u ps bs = roots_fewer (atom c d) u ps bs (λ e. absurd (false≢true (and_right (eqb c 116) false e)))
move_fewer (apply f ts) u ps bs = roots_fewer (apply f ts) u ps bs (part_upto f ts)

-- The run

moved_alike : (n : ℕ) (m : Move) (go far : List Pair → List Binding → Answer) → Fewer n m
    → ((qs : List Pair) (cs : List Binding) → pattern_nodes qs < n → go qs cs ≡ far qs cs) → moved m go ≡ moved m far
moved_alike n (onward qs cs) go far l h = ap (λ (a : Answer). (a.0, 1 + a.1)) (h qs cs l)
moved_alike n clash go far l h = refl
moved_alike n beyond go far l h = refl

matching_enough : (f g : ℕ) (ps : List Pair) (bs : List Binding) → pattern_nodes ps < f → pattern_nodes ps < g → matching f ps bs ≡ matching g ps bs
unfolding matching pattern_nodes
matching_enough zero g ps bs h k = absurd (omega arith)
matching_enough (suc f) zero ps bs h k = absurd (omega arith)
matching_enough (suc f) (suc g) [] bs h k = refl
matching_enough (suc f) (suc g) (p ∷ ps) bs h k =
    moved_alike (pattern_nodes (p ∷ ps)) (move p.0 p.1 ps bs) (λ qs cs. matching f qs cs) (λ qs cs. matching g qs cs) (move_fewer p.0 p.1 ps bs)
    (λ qs cs l. matching_enough f g qs cs (omega arith) (omega arith))

pub matcher_enough : (f g : ℕ) (ps : List Pair) → pattern_nodes ps < f → pattern_nodes ps < g → matcher f ps ≡ matcher g ps
unfolding matcher
matcher_enough f g ps h k = matching_enough f g ps [] h k
