-- What the schemes so far decide, and what judging a scheme needs. Definitions only.
use Rattle.std.specs.Prelude.{ℕ, ◌+◌, ◌*◌, ◌≤◌, ◌≡◌, cond, List, leb, length}
use Rattle.rules.specs.Bytes.{Text}
use Rattle.rules.specs.Tree.{Tree, Trees, size}
use Rattle.rules.specs.Substitution.{Binding, Pair, instantiate, size_pairs}
use Rattle.rules.specs.Solving.{solved, unify}
use Rattle.rules.specs.Variants.{system}
use Rattle.laws.specs.Schemes.{scheme_at}
use Rattle.laws.specs.Memory.{OverPairs}
use Rattle.elimination.specs.Stack.{FitPairs}
use Rattle.elimination.specs.declared.room.TheConstants.{NAME_CELLS}
use Rattle.elimination.specs.Area.{Room}
use Rattle.families.specs.Generalizing.{AllMatched}

-- fuel that no run over so many nodes and names uses up, at most 65,536
unfoldable pub fuel_for : ℕ → ℕ → ℕ
fuel_for nodes named = cond (leb (nodes + 4096 * named + 1) 65535) (nodes + 4096 * named + 1) 65536

-- the cells of a run from the free end n on end at most here
abbrev pub run_end : ℕ → ℕ → ℕ → ℕ
run_end n nodes named = n + nodes + 2 * fuel_for nodes named + NAME_CELLS * named

-- by the names of the fresh variables
module _ (name : ℕ → Text) where
  -- the system of the i-th scheme of a term
  abbrev pub system_of : Tree → ℕ → List Pair
  system_of term i = system term (scheme_at name term 0 i)

  -- the cells of its run end at most here
  abbrev pub solved_end : ℕ → Tree → ℕ → ℕ → ℕ
  solved_end n term named i = run_end (n + 2 * size term + 1024) (size_pairs (system_of term i)) named

  -- the i-th scheme can be judged after n cells: its pairs are fit and over so many names, there is room for its run, and for the
  -- matches of the members ts at the variables xs, with 4,096 cells for the instance of its value and two for each pair
  pub record Judgeable (s : Text) (w : List ℕ) (n named : ℕ) (xs : List Text) (ts : Trees) (term : Tree) (i : ℕ) : Type 0 where
    pub names : List Text
    pub over : OverPairs names (system_of term i)
    pub few : length names ≤ named
    pub fit : FitPairs (system_of term i)
    pub room : Room w (solved_end n term named i)
    pub matched : (bs : List Binding) → (unify 65536 (system_of term i)).0 ≡ solved bs
        → AllMatched s w (solved_end n term named i + 4098 + 2 * length xs) xs bs (instantiate bs (scheme_at name term 0 i).value) ts
