use mathlib.Core.Path.{ap, ◌∙◌}
use native.Mathlib.Omega.{arith}
use Rattle.rules.specs.Tree.{sizes}
use Rattle.tree.proofs.Keeping.{grows_keeps, grows_kind, grows_trees}
use Rattle.reduction.proofs.Becoming.{no_trees, fired_cell, fired_name, fired_none}
use Rattle.reduction.proofs.normalizing.root.Goals as goal

pub returns-in-Some-Cell : goal.returns-in-Some-Cell
returns-in-Some-Cell c =
    let v = c.in-Some-Cell in
    let p = rw v.field-0-is at v.ensures.value in
    rw (rw v.field-0-is at v.ensures.fires)
    (fired_cell c.fired.ensures.keeps c.requires.cells.2 v.k p.0 p.1 c.keep.ensures.puts c.keep.ensures.end)

pub push_fixed-requires-clause-count : goal.push_fixed-requires-clause-count
push_fixed-requires-clause-count c = ((no_trees c.fired.new.area).1, omega arith)

pub returns-in-Some-Name : goal.returns-in-Some-Name
returns-in-Some-Name c =
    let v = c.in-Some-Name in
    rw (rw v.field-0-is at v.ensures.fires)
    (fired_name c.fired.ensures.keeps c.requires.cells.2 (rw (no_trees c.fired.new.area).0 at c.push_fixed.ensures))

pub stay-requires-clause-application : goal.stay-requires-clause-application
stay-requires-clause-application c = grows_kind (grows_keeps c.fired.ensures.keeps) c.args.i c.requires.cells.0.1 ∙ c.requires.application

pub stay-requires-clause-small : goal.stay-requires-clause-small
stay-requires-clause-small c = omega (arith, ap sizes (grows_trees (grows_keeps c.fired.ensures.keeps) c.args.first c.requires.cells.1), c.requires.small)

pub returns-in-None : goal.returns-in-None
returns-in-None c =
    rw c.in-None.ensures.fires
    (fired_none c.fired.ensures.keeps c.requires.cells.2 c.args.i c.args.first c.requires.cells.0.1 c.requires.cells.1 c.stay.ensures.becomes)
