use mathlib.Core.Path.{refl, sym}
use native.Mathlib.Omega.{arith}
use Rattle.tree.proofs.Truncating.{keeps_truncated}
use Rattle.complete.proofs.JudgingIn.{going_ends, here_asks, here_judgeable, going_unsupported, going_turn}
use Rattle.complete.proofs.judging.judge.Goals as goal

pub judge_scheme-requires-clause-asks : goal.judge_scheme-requires-clause-asks
judge_scheme-requires-clause-asks c = here_asks c.requires.asks c.loop-i.invariant.0

pub judge_scheme-requires-clause-can_judge : goal.judge_scheme-requires-clause-can_judge
judge_scheme-requires-clause-can_judge c = here_judgeable c.requires.asks c.loop-i.invariant.0 c.requires.can_judge (omega arith)

pub returns-in_err-state : goal.returns-in_err-state
returns-in_err-state c = rw c.from_residual.ensures (going_unsupported c.requires.asks c.loop-i.invariant.0 (omega arith) c.judge_scheme.ensures c.in_err-state.was)

pub loop-i-preserved : goal.loop-i-preserved
loop-i-preserved c =
    let h = c.loop-i.invariant in
    let t = c.truncate.ensures in
    (going_turn c.requires.asks h.0 (omega arith) c.judge_scheme.ensures c.in_ok-state.was (keeps_truncated (sym h.0.keeps.end) c.judge_scheme.ensures.grows t.lent t.end t.words), refl)

pub returns : goal.returns
returns c = going_ends c.requires.asks c.loop-i.invariant.0 (omega arith) c.claim.ensures
