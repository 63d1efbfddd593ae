-- The machine that reads a term one token at a time. The stack has a level for each list that is open, and one below for the whole
-- term; a level holds the trees read so far, the last first. Definitions only.
use Rattle.std.specs.Prelude.{ℕ, ◌+◌, ◌*◌, ◌≤◌, ◌≡◌, List, [], ◌∷◌, cond, not, drop}
use Rattle.std.specs.Prelude.{Option, Some, None}
use Rattle.rules.specs.Bytes.{Text, same}
use Rattle.rules.specs.Text.{bytes, is_one_of}
use Rattle.rules.specs.Maybe.{◌>>=◌, guard}
use Rattle.rules.specs.Tree.{Tree, Trees, none, more, size, sizes, count}
use Rattle.rules.specs.Tokens.{tokens}
use Rattle.rules.specs.Reading.{leaf, close, single}
unfoldable pub use Rattle.tree.specs.Lists.{back}

pub data Stack : Type 0 where
  bottom : Trees → Stack
  level : Text → Trees → Stack → Stack

-- a tree on the top level
abbrev pub add : Tree → Stack → Stack
add t (bottom ts) = bottom (more t ts)
add t (level n ts k) = level n (more t ts) k

-- a term is wanted; a name is there, that a bracket may follow; a term is there, on the stack
pub data State : Type 0 where
  wants : Stack → State
  named : Text → Stack → State
  has : Stack → State

-- a token where a term is there
abbrev pub machine_after : Stack → Text → Option State
machine_after (bottom ts) x = None
machine_after (level n ts k) x = cond (same (bytes ",") x) (Some (wants (level n ts k))) (cond (same (bytes ")") x) (close n (back ts none) >>= λ t. Some (has (add t k))) None)

abbrev pub machine_step : State → Text → Option State
machine_step (wants k) x = guard (not (is_one_of (bytes "(" ∷ bytes ")" ∷ bytes "," ∷ []) x)) >>= λ _. Some (named x k)
machine_step (named n k) x = cond (same (bytes "(") x) (Some (wants (level n none k))) (machine_after (add (leaf n) k) x)
machine_step (has k) x = machine_after k x

-- at the end the only tree of the bottom is the term
abbrev pub finished_stack : Stack → Option Tree
finished_stack (bottom ts) = single ts
finished_stack (level n ts k) = None

abbrev pub machine_end : State → Option Tree
machine_end (wants k) = None
machine_end (named n k) = finished_stack (add (leaf n) k)
machine_end (has k) = finished_stack k

unfoldable pub machine : List Text → State → Option Tree
machine [] st = machine_end st
machine (x ∷ ts) st = machine_step st x >>= machine ts

-- what the text from a position on reads as, in a state
abbrev pub machine_reading : Text → ℕ → State → Option Tree
machine_reading s at st = tokens (drop at s) >>= λ ts. machine ts st

-- the nodes of all trees of a stack
abbrev pub total : Stack → ℕ
total (bottom ts) = sizes ts
total (level n ts k) = sizes ts + total k

-- the bottom is empty
abbrev pub Bare : Stack → Type 0
Bare (bottom ts) = ts ≡ none
Bare (level n ts k) = Bare k

-- where a term is there: the bottom is empty, or it is the top and holds one tree of at most 4,096 nodes
abbrev pub HasOne : Stack → Type 0
HasOne (bottom ts) = (t : Tree) × (ts ≡ more t none) × (size t ≤ 4096)
HasOne (level n ts k) = Bare k

-- the cells that closing the open lists may take
abbrev pub closing_room : Stack → ℕ
closing_room (bottom ts) = 0
closing_room (level n ts k) = 2 * count ts + 2 + closing_room k
