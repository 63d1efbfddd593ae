-- The pairs that a run takes from the stack, first to last (01, "The answer goes out": `spent`).
use Rattle.std.specs.Prelude.{List, [], ◌∷◌, ℕ, zero, suc}
use Rattle.rules.specs.Substitution.{Binding, Pair}
use Rattle.rules.specs.Solving.{Step, goes_on, bind, fails, unknown, step}
use Rattle.rules.specs.Matching.{Move, onward, clash, beyond, move}

-- those taken after a step, or none where it ends the run
abbrev pub taken_after : Step → (List Pair → List Pair) → List Pair
taken_after (goes_on qs) go = go qs
taken_after (bind x v qs) go = go qs
taken_after fails go = []
taken_after unknown go = []

-- by unify, with that fuel: until the stack is empty, a pair ends the run, or there is no fuel
unfoldable pub taken : ℕ → List Pair → List Pair
unfolding step
taken zero ps = []
taken (suc k) [] = []
taken (suc k) (p ∷ ps) = p ∷ taken_after (step p.0 p.1 ps) (λ qs. taken k qs)

-- those taken after a move
abbrev pub taken_after_move : Move → (List Pair → List Binding → List Pair) → List Pair
taken_after_move (onward qs cs) go = go qs cs
taken_after_move clash go = []
taken_after_move beyond go = []

-- by match, with bindings made before
unfoldable pub taken_matching : ℕ → List Pair → List Binding → List Pair
unfolding move
taken_matching zero ps bs = []
taken_matching (suc k) [] bs = []
taken_matching (suc k) (p ∷ ps) bs = p ∷ taken_after_move (move p.0 p.1 ps bs) (λ qs cs. taken_matching k qs cs)

unfoldable pub taken_by_match : ℕ → List Pair → List Pair
unfolding taken_matching
taken_by_match fuel ps = taken_matching fuel ps []
