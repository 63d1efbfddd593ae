-- Sheets with their pages, by computation.
use mathlib.Core.Path.{◌≡◌, refl}
use mathlib.Core.Bool.{true}
use Rattle.rules.specs.Table.{right}
use Rattle.rules.specs.PageCall.{page_call}
use Rattle.rules.specs.PageTable.{on_paper, page_table}

pub page_rows : right page_call page_table ≡ true
unfolding right page_call on_paper
page_rows = refl
