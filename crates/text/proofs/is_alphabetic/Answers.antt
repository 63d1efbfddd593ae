use Rattle.rules.specs.Names.{alphabetic}
use Rattle.text.proofs.is_alphabetic.Goals as goal

pub returns : goal.returns
unfolding alphabetic
returns c = c.is_ascii_alphabetic.ensures.value
