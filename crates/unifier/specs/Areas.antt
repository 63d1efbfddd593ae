-- What `unify` and `match` answer in an area. Definitions only.
use Rattle.std.specs.Prelude.{ℕ, ◌+◌, ◌*◌, ◌<◌, ◌≤◌, ◌^◌, ◌≡◌, List, reverse, length, Result, Ok, Err}
use Rattle.rules.specs.Bytes.{Text}
use Rattle.rules.specs.Substitution.{Pair}
use Rattle.rules.specs.declared.Ending.{Ending}
use Rattle.rules.specs.Solving as rules
use Rattle.laws.specs.Memory.{OverPairs}
use Rattle.tree.specs.declared.area.Area.{Area}
use Rattle.tree.specs.Areas.{trees_in, Grows}
use Rattle.substitution.specs.Bindings.{Chain}
use Rattle.substitution.specs.Areas.{bindings_in}
use Rattle.substitution.specs.Answers.{stopped, answer_in}
use Rattle.substitution.specs.declared.answer.Answer.{Answer}
use Rattle.elimination.specs.declared.room.TheConstants.{STEP_WORDS, NAME_CELLS}

-- the list from cell k on is one of bindings, and the words of one step are free above the cells
pub record BoundIn (a : Area) (k : ℕ) : Type 0 where
  pub inside : k < a.free
  pub chain : Chain (trees_in a k)
  pub room : 4 * a.free + STEP_WORDS ≤ length a.work.now

abbrev pub HoldsBound : Area → Result ℕ Ending → Type 0
HoldsBound a (Ok k) = BoundIn a k
HoldsBound a (Err e) = Unit {0}

-- b is a with more cells, and r is the answer x
pub record AnswersIn (a b : Area) (x : rules.Answer) (r : Answer) : Type 0 where
  pub grows : Grows a b
  pub is : x ≡ answer_in b r
  pub bound : HoldsBound b r.verdict

-- what the verdict of a run says: the bindings are not composed, and the list from a cell on has the last made first
abbrev pub ran_in : Area → Result ℕ Ending → rules.Verdict
ran_in a (Ok k) = rules.solved (reverse (bindings_in a k))
ran_in a (Err e) = stopped e

-- there is room to compose the bindings from cell k on
pub record ComposableIn (a : Area) (k : ℕ) : Type 0 where
  pub inside : k < a.free
  pub chain : Chain (trees_in a k)
  pub room : 4 * (a.free + 4097 * length (bindings_in a k)) + STEP_WORDS ≤ length a.work.now
  pub fits : a.free + 4097 * length (bindings_in a k) < 2 ^ 32

abbrev pub HoldsMade : Area → Result ℕ Ending → Type 0
HoldsMade a (Ok k) = ComposableIn a k
HoldsMade a (Err e) = Unit {0}

-- b is a with more cells, and r is the answer x of a run
pub record RunsIn (a b : Area) (x : rules.Answer) (r : Answer) : Type 0 where
  pub grows : Grows a b
  pub is : x ≡ (ran_in b r.verdict, r.spent)
  pub made : HoldsMade b r.verdict

-- the pairs are over so many names at most
pub record NamesFew (n : ℕ) (ps : List Pair) : Type 0 where
  pub names : List Text
  pub over : OverPairs names ps
  pub few : length names ≤ n

-- the cells end at most here after a run over so many nodes and names
abbrev pub spared_end : ℕ → ℕ → ℕ → ℕ → ℕ
spared_end free nodes fuel names = free + nodes + 2 * fuel + NAME_CELLS * names

-- where there are bindings, the cells end at m at most
abbrev pub EndsIn : Area → Result ℕ Ending → ℕ → Type 0
EndsIn a (Ok k) m = a.free ≤ m
EndsIn a (Err e) m = Unit {0}
