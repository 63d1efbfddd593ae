use mathlib.Core.Path.{refl, ap, ◌∙◌}
use lib.ListN.{set}
use Rattle.std.proofs.Common.{rules}
use native.Mathlib.Omega.{arith}
use Rattle.sums.proofs.Describing.{heft_count}
use Rattle.sums.proofs.Labelling.{describing_starts, described, text_room, end_small, describing_next}
use Rattle.sums.proofs.texts.describe.Goals as goal

pub overflow_cast-starts : goal.overflow_cast-starts
overflow_cast-starts c = omega (arith, c.requires.small, heft_count c.args.area.now.sheet.now c.args.area.now.work.now c.args.cells.now)

pub loop-p-init : goal.loop-p-init
loop-p-init c = (describing_starts c.args.area.now c.args.cells.now c.args.starts.now c.args.words.now c.requires.room, refl)

pub tree_fingerprint-mark-requires-clause-small : goal.tree_fingerprint-mark-requires-clause-small
tree_fingerprint-mark-requires-clause-small c = (text_room c.loop-p.invariant.0 c.loop-p-test.true c.requires.room c.requires.small).0

pub tree_fingerprint-mark-requires-clause-room : goal.tree_fingerprint-mark-requires-clause-room
tree_fingerprint-mark-requires-clause-room c = (text_room c.loop-p.invariant.0 c.loop-p-test.true c.requires.room c.requires.small).2

pub overflow_cast-starts-in-loop-p : goal.overflow_cast-starts-in-loop-p
overflow_cast-starts-in-loop-p c = let e = (end_small c.loop-p.invariant.0 c.loop-p-test.true c.requires.room c.requires.small (record { area = _; canon = c.tree_fingerprint-mark.ensures.written.canon; is = refl })).0 in omega arith

pub loop-p-preserved : goal.loop-p-preserved
loop-p-preserved c =
    let w = c.tree_fingerprint-mark.ensures in
    (describing_next c.loop-p.invariant.0 c.loop-p-test.true c.requires.room c.requires.small (record { area = _; canon = w.written.canon; is = ap (set c.tree_fingerprint-mark.new.out.words.now c.loop-p.p) w.value }), w.written.lent ∙ c.loop-p.invariant.1)

pub returns : goal.returns
returns c =
    let d = described c.loop-p.invariant.0 (omega (arith, c.loop-p-test.false)) in
    let e = c.loop-p.invariant.1 in
    search (rules, d, e)
