use Rattle.std.proofs.Common.{◌≡◌, ◌-◌, ◌≤◌}
use Rattle.flattening.specs.Items.{wanting, having}
use Rattle.flattening.proofs.WriterStates.{Writing}
use Rattle.flattening.proofs.text_words.Given as goal

abbrev pub invariant-term : goal.invariant-term
invariant-term l =
    (l.out.words.ghost_name ≡ l.initial.out.words.ghost_name) × (l.stack.words.ghost_name ≡ l.initial.stack.words.ghost_name) × Writing l.sheet l.fn.text l.fn.words l.fn.stack l.out l.stack l.at wanting

abbrev pub decreases-term : goal.decreases-term
decreases-term l = l.fn.text.to - l.at

abbrev pub invariant-loop-next : goal.invariant-loop-next
invariant-loop-next l =
    (l.out.words.ghost_name ≡ l.initial.out.words.ghost_name) × (l.stack.words.ghost_name ≡ l.initial.stack.words.ghost_name) × (l.initial.at ≤ l.at) × Writing l.sheet l.fn.text l.fn.words l.fn.stack l.out l.stack l.at having

abbrev pub decreases-loop-next : goal.decreases-loop-next
decreases-loop-next l = l.fn.text.to - l.at
