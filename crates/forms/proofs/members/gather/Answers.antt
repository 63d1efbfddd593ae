use native.Mathlib.Omega.{arith}
use Rattle.forms.proofs.KeyLaws.{gathers_none, gathers_room, word_fits, gathers_more}
use Rattle.forms.proofs.members.gather.Goals as goal

pub loop-entry-init : goal.loop-entry-init
loop-entry-init c = record { few = omega arith; all = gathers_none c.args.sheet.now c.args.start.at c.args.words.now }

pub word-requires : goal.word-requires
word-requires c = word_fits _ _ _ _ c.loop-entry.invariant.all c.in-Some.ensures c.requires.0

pub loop-entry-smaller : goal.loop-entry-smaller
loop-entry-smaller c = omega (arith, gathers_room _ _ _ _ c.loop-entry.invariant.all c.in-Some.ensures c.requires.0)

pub loop-entry-preserved : goal.loop-entry-preserved
loop-entry-preserved c =
    let room = gathers_room _ _ _ _ c.loop-entry.invariant.all c.in-Some.ensures c.requires.0 in
    record { few = omega arith; all = gathers_more _ _ _ _ c.loop-entry.invariant.all c.in-Some.ensures c.requires.0 _ (omega arith) c.word.ensures }
