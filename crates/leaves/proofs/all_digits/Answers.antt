use Rattle.std.proofs.Common.{rules, ◌∙◌}
use Rattle.std.proofs.lemmas.Iterator.{YieldsList-from_slice}
use Rattle.std.proofs.lemmas.Iterator.Search.{all_from_yields_List}
use Rattle.rules.specs.Names.{digit}
use Rattle.text.proofs.Library.{all_is}
use Rattle.leaves.proofs.all_digits.Goals as goal

pub returns : goal.returns
returns c =
    let n = c.args.name.now in
    all_from_yields_List digit _ _ c.all.result c.all.ensures.ran (YieldsList-from_slice n cc) (λ x b q h. search rules) ∙ all_is digit n
