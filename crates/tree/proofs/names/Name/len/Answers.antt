use native.Mathlib.Omega.{arith}
use mathlib.Core.Path.{ap}
use lib.ListN.{length}
use Rattle.laws.proofs.Renaming.Unspelled.{unspelled_length}
use Rattle.tree.specs.declared.names.Name.{Name}
use Rattle.tree.specs.Names.{name_text}
use Rattle.tree.proofs.names.Name.len.Goals as goal

pub returns-in-Unspelled : goal.returns-in-Unspelled
returns-in-Unspelled c = omega (arith, unspelled_length c.in-Unspelled.n, ap (λ (x : Name). length (name_text x)) c.in-Unspelled.is)
