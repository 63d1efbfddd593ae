use native.Mathlib.Omega.{arith}
use Rattle.rules.specs.Text.{bytes}
use Rattle.tree.specs.Areas.{tree_in, trees_in}
use Rattle.rewriting.specs.Areas.{two_in}
use Rattle.rewriting.proofs.Fired.{two_less, keys_fit}
use Rattle.rewriting.proofs.firing.decrypted.Goals as goal

pub opens-requires-clause-small : goal.opens-requires-clause-small
opens-requires-clause-small c =
    let a = c.args.area.now in
    let two = c.in_ok-cipher.cipher in
    let h = keys_fit (trees_in a c.args.list) (tree_in a two.second) c.in_ok-other.ensures.trees (two_less (bytes "tamXCsenc") (tree_in a c.args.list) (two_in a two) c.in_ok-cipher.ensures.trees) in
    omega (arith, h, c.requires.small)
