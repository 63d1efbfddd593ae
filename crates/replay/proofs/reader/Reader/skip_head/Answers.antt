use Rattle.std.proofs.Common.{arith, sym, ◌∙◌}
use Rattle.rules.specs.Text.{bytes}
use Rattle.text.proofs.Library.{begins_is}
use Rattle.replay.proofs.Records.{left_then, left_less}
use Rattle.replay.proofs.reader.Reader.skip_head.Goals as goal

pub loop-self-smaller : goal.loop-self-smaller
loop-self-smaller c = left_less _ _ _ _ c.take.result.now _ (sym (begins_is (bytes "#") c.loop-self.self.rest.now) ∙ sym c.starts_with.ensures.value ∙ c.loop-self-test.true) c.take.ensures.parts (λ h. omega (arith, h, c.take.ensures.count)) c.line.ensures

pub loop-self-preserved : goal.loop-self-preserved
loop-self-preserved c = left_then c.loop-self.invariant (left_then (_, c.take.ensures.parts) (_, c.line.ensures))
