use mathlib.Core.Path.{sym}
use lib.Seq.{length-take-le}
use Rattle.reading.proofs.symbol.Goals as goal

pub slice_bounds-next_symbol-end : goal.slice_bounds-next_symbol-end
slice_bounds-next_symbol-end c = sym (length-take-le _ _ c.requires)
