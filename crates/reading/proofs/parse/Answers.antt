use Rattle.reading.proofs.RoundsIn.{unread_from}
use Rattle.reading.proofs.parse.Goals as goal

pub truncate-requires : goal.truncate-requires
truncate-requires c =
    let x = unread_from c.args.text c.set_word.ensures c.requires.room.0 c.read.new.area c.in_default.ensures in
    (c.args.area.now.arena.links.some, x.3)
