use Rattle.std.proofs.Common.{◌∙◌}
use Rattle.rules.specs.Text.{bytes}
use Rattle.text.proofs.Library.{begins_is}
use Rattle.replay.proofs.reader.opened.Goals as goal

pub returns-then-paged : goal.returns-then-paged
returns-then-paged c = rw (c.if-paged.true) (c.starts_with.ensures.value ∙ begins_is (bytes "pages ") c.args.start.now)

pub returns : goal.returns
returns c = rw (c.if-paged.false) (c.starts_with-2.ensures.value ∙ begins_is (bytes "sheet ") c.args.start.now)
