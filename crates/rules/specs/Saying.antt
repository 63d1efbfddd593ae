-- What the answers of `equal`, `reduce`, `cover`, `sound` and `complete` say, byte for byte (01, "The answer goes out").
use Rattle.std.specs.Prelude.{◌≡◌, Bool, true, false, ◌++◌, ◌↔◌, ◌⊎◌, ◌≤◌, Option, Some, None}
use Rattle.rules.specs.Bytes.{Text}
use Rattle.rules.specs.Text.{bytes}
use Rattle.rules.specs.Tree.{Tree, size}
use Rattle.rules.specs.Writing.{render}
use Rattle.rules.specs.Reading.{parse}
use Rattle.rules.specs.Rewriting.{Reduced}

-- the answer is one line with this key: `yes`, `no` or `none`, each exactly where that is meant
pub record Says (key : Text) (Means : Option Bool → Type 0) (answer : Text) : Type 0 where
  pub says_yes : (answer ≡ key ++ bytes "yes\n") ↔ Means (Some true)
  pub says_no : (answer ≡ key ++ bytes "no\n") ↔ Means (Some false)
  pub says_none : (answer ≡ key ++ bytes "none\n") ↔ Means None
  pub says_one : (answer ≡ key ++ bytes "yes\n") ⊎ (answer ≡ key ++ bytes "no\n") ⊎ (answer ≡ key ++ bytes "none\n")

-- yes where it holds, no where it does not, and never none
pub data Decides (P : Type 0) : Option Bool → Type 0 where
  holds : P → Decides P (Some true)
  fails : ¬ P → Decides P (Some false)

-- the answer is the line `normal=` with the text of a tree, which reads as that tree, has at most 4,096 nodes and is the one reduced tree
pub record SaysNormal (t : Tree) (answer : Text) : Type 0 where
  pub normal : Tree
  pub says : answer ≡ bytes "normal=" ++ render normal ++ bytes "\n"
  pub reads : parse (render normal) ≡ Some normal
  pub limit : size normal ≤ 4096
  pub reduced : Reduced t normal
  pub only : (u : Tree) → Reduced t u → u ≡ normal
