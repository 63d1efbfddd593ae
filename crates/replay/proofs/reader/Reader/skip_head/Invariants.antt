use Rattle.std.proofs.Common.{length}
use Rattle.replay.specs.Records.{LeftOf}
use Rattle.replay.proofs.reader.Reader.skip_head.Given as goal

abbrev pub invariant-loop-self : goal.invariant-loop-self
invariant-loop-self l = LeftOf l.initial.self.rest.now l.self.rest.now

abbrev pub decreases-loop-self : goal.decreases-loop-self
decreases-loop-self l = length l.self.rest.now
