use Rattle.reading.proofs.StacksIn.{level_refused, level_shut}
use Rattle.reading.proofs.stack.close.Goals as goal

pub returns-in_err-cell : goal.returns-in_err-cell
returns-in_err-cell c =
    rw c.from_residual.ensures
    (level_refused c.args.area.now c.args.stack c.word-from.ensures.0 c.word.ensures.0 c.word-chain.ensures.0 c.shut.new.area c.word-next.result c.requires.room.0 c.in_err-cell.ensures)

pub returns : goal.returns
returns c = level_shut c.args.area.now c.args.stack c.word-from.ensures.0 c.word.ensures.0 c.word-chain.ensures.0 c.shut.new.area c.word-next.result c.requires.held c.requires.room.0 c.word-next.ensures.0 c.in_ok-cell.ensures c.set_word.ensures
