-- The cells of summands in words of their own, and their canonical texts. A cell that is struck out is 0. Definitions only.
use Rattle.std.specs.Prelude.{ℕ, ◌+◌, ◌<◌, ◌≤◌, ◌≡◌, Bool, true, false, ◌⊎◌, List, [], ◌∷◌, Option, Some, None, length, get_or, set, take, drop}
use Rattle.std.proofs.Math.Seq.{slice}
use Rattle.rules.specs.Bytes.{Text}
use Rattle.rules.specs.Tree.{Tree}
use Rattle.rules.specs.Sums.{canonical, equivalent}
use Rattle.rules.specs.Solving.{remove, cancel}
use Rattle.tree.specs.declared.area.Area.{Area}
use Rattle.tree.specs.Areas.{tree_in}
use Rattle.text.specs.Frames.{Wrote}
use Rattle.flattening.specs.declared.writer.Writer.{Writer}
use Rattle.runs.specs.Texts.{texts, Tokens}
use Rattle.fingerprints.specs.Fingerprints.{fingerprint}
use Rattle.sums.specs.Sums.{remaining, heft, test, ahead}
use Rattle.sums.specs.declared.striking.Cancelling.{Cancelling}
use Rattle.sums.specs.declared.striking.Cancelling.TheVariants.{Every, Ground}

-- every summand cancels
abbrev pub every_cancels : Cancelling → Bool
every_cancels Every = true
every_cancels Ground = false

-- two trees cancel
abbrev pub test_of : Cancelling → Tree → Tree → Bool
test_of c = test (every_cancels c)

-- the trees of cells, but 0, and the nodes of cells
abbrev pub trees_of : Area → List ℕ → List Tree
trees_of a cs = remaining a.sheet.now a.work.now cs

abbrev pub heft_in : Area → List ℕ → ℕ
heft_in a cs = heft a.sheet.now a.work.now cs

abbrev pub AreCells : Area → List ℕ → Type 0
AreCells a cs = (q : ℕ) → q < length cs → (0 < get_or cs q 0) × (get_or cs q 0 < a.free)

-- v is w with the cells of summands ts from one position to another; they have n nodes at most
pub record CollectsCells (a : Area) (w v : List ℕ) (at end n : ℕ) (ts : List Tree) : Type 0 where
  pub cells : List ℕ
  pub wrote : Wrote w v at cells
  pub ends : end ≡ at + length cells
  pub are : AreCells a cells
  pub light : heft_in a cells ≤ n
  pub trees : trees_of a cells ≡ ts

-- y is x with them
pub record CellsWritten (a : Area) (x y : Writer) (n : ℕ) (ts : List Tree) : Type 0 where
  pub lent : y.words.ghost_name ≡ x.words.ghost_name
  pub collected : CollectsCells a x.words.now y.words.now x.end y.end n ts

-- the words of text q are those from its start to the next
pub record TextFits (s starts words : List ℕ) (q : ℕ) : Type 0 where
  pub started : q + 1 < length starts
  pub marked : q < length words
  pub low : get_or starts q 0 ≤ get_or starts (q + 1) 0
  pub high : get_or starts (q + 1) 0 ≤ length words
  pub tokens : Tokens s words (get_or starts q 0) (get_or starts (q + 1) 0)

-- text q
abbrev pub nth_text : List ℕ → List ℕ → List ℕ → ℕ → Text
nth_text s starts words q = texts s (slice (get_or starts q 0) (get_or starts (q + 1) 0) words)

-- it is that of the tree t
pub record TextIs (s starts words : List ℕ) (q : ℕ) (t : Tree) : Type 0 where
  pub text : nth_text s starts words q ≡ canonical t
  pub mark : get_or words q 0 ≡ fingerprint (canonical t)

-- it is that of some tree
abbrev pub SomeTree : List ℕ → List ℕ → List ℕ → ℕ → Type 0
SomeTree s starts words q = (t : Tree) × TextIs s starts words q t

-- the texts from the k-th on are those of the cells that are not struck out
abbrev pub TextsIn : Area → List ℕ → ℕ → List ℕ → List ℕ → Type 0
TextsIn a cs k starts words = (q : ℕ) → q < length cs → 0 < get_or cs q 0 → TextFits a.sheet.now starts words (k + q) × TextIs a.sheet.now starts words (k + q) (tree_in a (get_or cs q 0))

-- the first of the cells whose tree is equal to t, if there is one
abbrev pub FindsPartner : Area → Tree → List ℕ → Option ℕ → Type 0
FindsPartner a t cs (Some k) = (k < length cs) × (remove equivalent t (trees_of a cs) ≡ Some (trees_of a (set cs k 0)))
FindsPartner a t cs None = remove equivalent t (trees_of a cs) ≡ None

-- v is w with some cells struck out
pub record Struck (w v : List ℕ) : Type 0 where
  pub len : length v ≡ length w
  pub word : (q : ℕ) → (get_or v q 0 ≡ get_or w q 0) ⊎ (get_or v q 0 ≡ 0)

-- the left cell i and its partner of the right cells r are struck out, if it has one that cancels
pub record StrikesOne (a : Area) (i : ℕ) (r : List ℕ) (j : ℕ) (s : List ℕ) (c : Cancelling) : Type 0 where
  pub left : (j ≡ i) ⊎ (j ≡ 0)
  pub rights : Struck r s
  pub are : (ts : List Tree) → cancel (test_of c) (tree_in a i ∷ ts) (trees_of a r) ≡ ahead (trees_of a (j ∷ [])) (cancel (test_of c) ts (trees_of a s))

-- the left cells l and the right ones r are cancelled
pub record Strikes (a : Area) (l r m s : List ℕ) (c : Cancelling) : Type 0 where
  pub lefts : Struck l m
  pub rights : Struck r s
  pub are : cancel (test_of c) (trees_of a l) (trees_of a r) ≡ (trees_of a m, trees_of a s)

-- the same of the first mid of the cells and the others
pub record StrikesCells (a : Area) (w v : List ℕ) (mid : ℕ) (c : Cancelling) : Type 0 where
  pub struck : Struck w v
  pub are : cancel (test_of c) (trees_of a (take mid w)) (trees_of a (drop mid w)) ≡ (trees_of a (take mid v), trees_of a (drop mid v))
