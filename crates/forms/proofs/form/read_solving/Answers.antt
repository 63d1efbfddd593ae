use Rattle.std.proofs.Common.{rules, ap, sym, ◌∙◌}
use Rattle.rules.specs.Decimal.{number_up_to}
use Rattle.forms.proofs.SheetLaws.{pairs_unread, solving_read}
use Rattle.forms.proofs.form.read_solving.Goals as goal

pub returns-in_err-at_end : goal.returns-in_err-at_end
returns-in_err-at_end c =
    let line = c.in-Some.ensures in
    let fuel = sym c.in_ok-fuel.ensures.ok_part ∙ c.number_up_to.ensures ∙ ap (number_up_to 65536) c.text-text.ensures in
    let unread = pairs_unread c.args.solver _ _ _ line _ fuel _ c.after_pairs.ensures in
    search (rules, unread)

pub returns : goal.returns
returns c =
    let line = c.in-Some.ensures in
    let fuel = sym c.in_ok-fuel.ensures.ok_part ∙ c.number_up_to.ensures ∙ ap (number_up_to 65536) c.text-text.ensures in
    solving_read c.args.solver _ _ _ line _ fuel _ c.after_pairs.ensures c.in_ok-at_end.ensures.ends
