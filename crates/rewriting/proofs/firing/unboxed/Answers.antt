use Prim.Native.Nat.{◌<◌}
use native.Mathlib.Omega.{arith}
use Rattle.rules.specs.Text.{bytes}
use Rattle.rules.specs.Tree.{size}
use Rattle.tree.specs.Areas.{tree_in, trees_in}
use Rattle.rewriting.specs.Areas.{two_in}
use Rattle.rewriting.proofs.Fired.{one_less, two_less, keys_fit}
use Rattle.rewriting.proofs.firing.unboxed.Goals as goal

pub opens-requires-clause-small : goal.opens-requires-clause-small
opens-requires-clause-small c =
    let a = c.args.area.now in
    let two = c.in_ok-cipher.cipher in
    let key = tree_in a c.in_ok-key.key in
    let box = two_less (bytes "tamXCkem") (tree_in a c.args.list) (two_in a two) c.in_ok-cipher.ensures.trees in
    let less : size key < size (tree_in a c.args.list) = omega (arith, box, one_less (bytes "tamXCpk") (tree_in a two.second) key c.in_ok-key.ensures.tree) in
    let h = keys_fit (trees_in a c.args.list) key c.in_ok-other.ensures.trees less in
    omega (arith, h, c.requires.small)
