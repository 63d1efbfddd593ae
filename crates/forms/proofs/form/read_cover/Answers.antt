use Rattle.std.proofs.Common.{rules}
use Rattle.forms.proofs.SheetLaws.{cover_unread}
use Rattle.forms.proofs.form.read_cover.Goals as goal

pub returns-in_default : goal.returns-in_default
returns-in_default c = let unread = cover_unread _ _ _ c.after_pairs-end.ensures in search (rules, unread)
