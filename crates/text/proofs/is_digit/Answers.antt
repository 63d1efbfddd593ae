use Rattle.rules.specs.Names.{digit}
use Rattle.text.proofs.is_digit.Goals as goal

pub returns : goal.returns
unfolding digit
returns c = c.is_ascii_digit.ensures.value
