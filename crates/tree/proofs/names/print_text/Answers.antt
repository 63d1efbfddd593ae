use mathlib.Core.Path.{refl}
use native.Mathlib.Omega.{arith}
use Rattle.tree.proofs.Printing.{put_part}
use Rattle.tree.proofs.names.print_text.Goals as goal

pub returns : goal.returns
returns c = record { bytes = put_part c.args.out.now c.args.at (omega arith) c.copy.ensures; end = refl }
