-- What is left of two sums of an area, and what the roots of two of its trees leave of their pair. Definitions only.
use Rattle.std.specs.Prelude.{ℕ, zero, suc, ◌+◌, ◌-◌, ◌*◌, ◌<◌, ◌≤◌, ◌^◌, ◌≡◌, Bool, true, false, List, [], ◌∷◌, Option, Some, None, Result, Ok, Err, length, get_or}
use Rattle.rules.specs.Bytes.{same}
use Rattle.rules.specs.Tree.{Tree, head, children, same_tree, tamtplus}
use Rattle.rules.specs.Substitution.{Pair}
use Rattle.rules.specs.Solving.{cancel_sums, push_children}
use Rattle.rules.specs.Solving as rules
use Rattle.rules.specs.declared.Ending.{Ending}
use Rattle.rules.specs.declared.Ending.TheVariants as ending
use Rattle.laws.specs.Memory.{weight}
use Rattle.tree.specs.declared.area.Area.{Area}
use Rattle.tree.specs.Areas.{tree_in, CellIn, KeepsCells, Grows}
use Rattle.sums.specs.Sums.{heavy}
use Rattle.sums.specs.Summands.{every_cancels, test_of}
use Rattle.sums.specs.declared.striking.Cancelling.{Cancelling}
use Rattle.sums.specs.Areas.{remaining_in}
use Rattle.elimination.specs.declared.Next.{Next}
use Rattle.elimination.specs.declared.front.Front.{Front}
use Rattle.elimination.specs.Areas.{pairs_in, ApartIn, WaitsIn}
use Rattle.elimination.specs.Fronts.{load_in}
use Rattle.steps.specs.Resting.{Several}
use Rattle.steps.specs.declared.rest.Equation.{Equation}

-- a number of pairs, if there are some
abbrev pub some_pairs : ℕ → Option ℕ
some_pairs zero = None
some_pairs (suc k) = Some (suc k)

-- Sums

-- the first two of the cells that are left, which have these trees
abbrev pub LeftIn : Area → List Tree → Option ℕ → Option ℕ → Type 0
LeftIn a ts None o = ts ≡ []
LeftIn a ts (Some k) None = CellIn a k × (ts ≡ tree_in a k ∷ [])
LeftIn a ts (Some k) (Some m) = Several ts

-- the words from x to y are cells or 0, and there is room for the sum of what is left of them
pub record SummableIn (a : Area) (x y : ℕ) : Type 0 where
  pub order : x ≤ y
  pub inside : y ≤ length a.work.now
  pub room : 4 * (a.free + 2 * (y - x)) ≤ x
  pub small : a.free + 2 * (y - x) < 2 ^ 32
  pub cells : (p : ℕ) → x ≤ p → p < y → get_or a.work.now p 0 < a.free
  pub light : heavy (remaining_in a x y) ≤ 65535

-- the trees of cells i and j are to be paired; `kept` summands were left in all
pub record EquationIn (a b : Area) (kept : ℕ) (d : rules.Rest) (i j : ℕ) : Type 0 where
  pub is : d ≡ rules.equation (tree_in b i) (tree_in b j)
  pub grows : Grows a b
  pub left_inside : CellIn b i
  pub right_inside : CellIn b j
  pub used : b.free + 2 ≤ a.free + 2 * kept

-- what sums leave where they end a run
abbrev pub rest_at_end : Ending → rules.Rest
rest_at_end ending.Failed = rules.mismatch
rest_at_end ending.Unsupported = rules.stuck

abbrev pub RestIn : Area → Area → ℕ → rules.Rest → Result (Option Equation) Ending → Type 0
RestIn a b kept d (Ok None) = (d ≡ rules.emptied) × KeepsCells a b
RestIn a b kept d (Ok (Some e)) = EquationIn a b kept d e.left e.right
RestIn a b kept d (Err e) = (d ≡ rest_at_end e) × KeepsCells a b

-- what is left on both sides is settled
abbrev pub RemainderIn : Area → Area → Cancelling → List Tree → List Tree → Result (Option Equation) Ending → Type 0
RemainderIn a b c ks os r = RestIn a b (length ks + length os) (rules.remainder (every_cancels c) ks os) r

-- Roots

-- what the roots of a pair leave of it: waiting pairs, no solution, or more than the rules settle
pub data Rooted : Type 0 where
  waiting : List Pair → Rooted
  unlike undecided : Rooted

abbrev pub rest_rooted : rules.Rest → List Pair → Rooted
rest_rooted rules.emptied ps = waiting ps
rest_rooted rules.mismatch ps = unlike
rest_rooted (rules.equation a b) ps = waiting ((a, b) ∷ ps)
rest_rooted rules.stuck ps = undecided

abbrev pub roots_at : Bool → Bool → Cancelling → Tree → Tree → List Pair → Rooted
roots_at false b c l r ps = unlike
roots_at true true c l r ps = rest_rooted (cancel_sums (every_cancels c) (test_of c) l r) ps
roots_at true false c l r ps = waiting (push_children (children l) (children r) ps)

-- no side that may be bound is a variable
unfoldable pub roots : Cancelling → Tree → Tree → List Pair → Rooted
unfolding head children same cancel_sums push_children
roots c l r ps = roots_at (same (head l) (head r)) (same (head l) tamtplus) c l r ps

-- the pairs that wait; those before them weighed h, and two cells more are taken than their weight falls. Where the two trees are not
-- the same, k is as in ApartIn
pub record WaitingIn (a b : Area) (h : ℕ) (same : Bool) (d : Rooted) (st : ℕ) (k : Option ℕ) : Type 0 where
  pub pairs : List Pair
  pub is : d ≡ waiting pairs
  pub waits : WaitsIn a b st pairs
  pub used : b.free + weight pairs ≤ a.free + h + 2
  pub apart : same ≡ false → ApartIn k pairs

-- what roots leave where they end a run
abbrev pub rooted_at_end : Ending → Rooted
rooted_at_end ending.Failed = unlike
rooted_at_end ending.Unsupported = undecided

abbrev pub RootsIn : Area → Area → ℕ → Bool → Rooted → Result Next Ending → Type 0
RootsIn a b h same d (Ok n) = WaitingIn a b h same d n.stack n.apart
RootsIn a b h same d (Err e) = (d ≡ rooted_at_end e) × Grows a b

-- two sums on top leave what is left of them when their summands have cancelled
abbrev pub SumsIn : Area → Area → Front → Cancelling → Result Next Ending → Type 0
SumsIn a b f c r =
    let x = tree_in a f.left in
    let y = tree_in a f.right in
    let ps = pairs_in a f.rest in
    RootsIn a b (load_in a f + weight ps) (same_tree x y) (rest_rooted (cancel_sums (every_cancels c) (test_of c) x y) ps) r
