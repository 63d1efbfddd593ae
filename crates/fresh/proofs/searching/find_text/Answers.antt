use Rattle.std.proofs.Common.{rules}
use Rattle.fresh.proofs.Finding.{not_found, found}
use Rattle.fresh.proofs.searching.find_text.Goals as goal

pub returns-in_err-from : goal.returns-in_err-from
returns-in_err-from c =
    let p = c.position.ensures.runs.0 in
    rw c.from_residual.ensures (not_found c.args.sheet.now c.args.text.now p.at c.requires (λ k h. let w = p.reads k c.args.text in search rules))

pub returns : goal.returns
returns c =
    let p = c.position.ensures.runs.0 in
    found c.args.sheet.now c.args.text.now p.at c.requires c.in_ok-from.from (search rules) (λ k l h. search rules)
