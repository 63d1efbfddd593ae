use Rattle.std.proofs.Common.{rules}
use Rattle.forms.proofs.KeyLaws.{apart_is}
use Rattle.forms.proofs.members.all_apart.Goals as goal

pub returns : goal.returns
returns c = apart_is c.args.sheet.now c.args.words.now c.all.result (search rules)
