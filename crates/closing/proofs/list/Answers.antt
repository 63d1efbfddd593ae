use Rattle.closing.proofs.Shuts.{closes_none, list_over, list_counted, list_shut}
use Rattle.closing.proofs.list.Goals as goal

pub returns-in_err-children : goal.returns-in_err-children
returns-in_err-children c = closes_none _ _ _ _ _ c.from_residual.ensures (list_over _ _ c.args.chain c.args.next _ c.in_err-children.ensures)

pub push_application-requires-clause-count : goal.push_application-requires-clause-count
push_application-requires-clause-count c = list_counted c.in_ok-children.ensures

pub returns : goal.returns
returns c = list_shut c.in_ok-children.ensures c.args.name c.requires.links.1 c.push_application.ensures
