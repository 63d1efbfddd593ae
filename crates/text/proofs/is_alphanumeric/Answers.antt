use Rattle.std.proofs.Common.{◌∙◌}
use Rattle.std.specs.Int.{is_in_range}
use Rattle.rules.specs.Names.{alphabetic, digit, alphanumeric}
use Rattle.text.proofs.Library.{or_turned}
use Rattle.text.proofs.is_alphanumeric.Goals as goal

pub returns : goal.returns
unfolding alphanumeric alphabetic digit
returns c =
    let b = c.args.b in
    c.is_ascii_alphanumeric.ensures.value ∙ or_turned (is_in_range 48 57 b) (is_in_range 65 90 b) (is_in_range 97 122 b)
