use Rattle.substitution.proofs.Listing.{lists_same, lists_push, lists_tree}
use Rattle.substitution.proofs.pairing.push_pair.Goals as goal

pub returns-clause-lists : goal.returns-clause-lists
returns-clause-lists c =
    let a = c.args in
    let h = lists_push (lists_same a.area.now a.list c.requires.cells.2) c.share-second.ensures in
    rw (← lists_tree a.left c.requires.cells.0.0 c.requires.cells.0.1 h) (lists_push h c.share.ensures)
