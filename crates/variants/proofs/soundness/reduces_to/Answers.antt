use native.Mathlib.Omega.{arith}
use Rattle.tree.proofs.Keeping.{grows_length, adds_grows}
use Rattle.variants.proofs.ClaimingIn.{instance_large, instance_small, reduced_sizes, reduced_claim}
use Rattle.variants.proofs.soundness.reduces_to.Goals as goal

pub returns-in_err-instance : goal.returns-in_err-instance
returns-in_err-instance c = rw c.from_residual.ensures (instance_large c.args.term c.args.member c.in_err-instance.ensures)

pub normalize-normal-requires-clause-small : goal.normalize-normal-requires-clause-small
normalize-normal-requires-clause-small c = (instance_small c.args.term c.args.member c.in_ok-instance.ensures).0

pub normalize-normal-requires-clause-room : goal.normalize-normal-requires-clause-room
normalize-normal-requires-clause-room c =
    let one = c.in_ok-instance.ensures in
    let b = instance_small c.args.term c.args.member one in
    (omega (arith, b, one.used, grows_length (adds_grows one.puts.adds), c.requires.room), omega (arith, b, one.used, c.requires.room))

pub equivalent-requires-clause-cells : goal.equivalent-requires-clause-cells
equivalent-requires-clause-cells c =
    let two = c.normalize-normal.ensures in
    let q = c.requires.cells in
    let z = reduced_sizes c.args.term c.args.member c.in_ok-instance.ensures two q.1.0 q.1.1 c.requires.room.0 in
    ((two.some_cell, two.inside), (q.1.0, omega (arith, q.1.1, z)))

pub equivalent-requires-clause-small : goal.equivalent-requires-clause-small
equivalent-requires-clause-small c =
    let q = c.requires.cells in
    let z = reduced_sizes c.args.term c.args.member c.in_ok-instance.ensures c.normalize-normal.ensures q.1.0 q.1.1 c.requires.room.0 in
    (omega (arith, z), omega (arith, z))

pub equivalent-requires-clause-room : goal.equivalent-requires-clause-room
equivalent-requires-clause-room c =
    let one = c.in_ok-instance.ensures in
    let two = c.normalize-normal.ensures in
    let q = c.requires.cells in
    let z = reduced_sizes c.args.term c.args.member one two q.1.0 q.1.1 c.requires.room.0 in
    omega (arith, z, c.requires.room, grows_length (adds_grows one.puts.adds), grows_length two.grows)

pub returns : goal.returns
returns c =
    let q = c.requires.cells in
    reduced_claim c.args.term c.args.member c.in_ok-instance.ensures c.normalize-normal.ensures q.1.0 q.1.1 c.equivalent.ensures.keeps c.equivalent.result c.equivalent.ensures.value
