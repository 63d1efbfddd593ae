use Rattle.std.proofs.Common.{arith, length-take, length-drop, sym, ap, ◌∙◌}
use Rattle.printing.proofs.Puts.{puts_over, puts_measured, puts_written, put_back}
use Rattle.printing.proofs.output.Output.put.Goals as goal
use Rattle.printing.proofs.output.Output.put.Goals.{in-Write, in_default}

pub returns-then-self-count : goal.returns-then-self-count
returns-then-self-count g c t e h = puts_over (omega (arith, c.if-self-count.true))

pub returns : goal.returns
returns g c t e h =
    let k = c.if-self-count.false in
    let i = c.args.self.now.inside in
    elim c.match-self.branch [
      | in-Write w ↦ puts_written (record { lent = ap (λ z. z.1.0.ghost_name) w.self-is; pass = ap (λ z. z.1.1.1.1.1.0) w.self-is; room = ap (λ z. z.1.1.1.1.0) w.self-is; lines = ap (λ z. z.1.1.1.0) w.self-is }) w.in-Write.is (omega arith) (omega arith) (ap (λ z. z.1.0.now) w.self-is ∙ put_back c.args.self.now.bytes.now c.args.self.now.at (sym e) (h _ _ (simp (length-take, length-drop) (omega arith)) w.fill.ensures))
      | in_default w ↦ puts_measured (record { lent = ap (λ z. z.1.0.ghost_name) w.self-is; pass = ap (λ z. z.1.1.1.1.1.0) w.self-is; room = ap (λ z. z.1.1.1.1.0) w.self-is; lines = ap (λ z. z.1.1.1.0) w.self-is }) w.in_default.is (omega arith) (omega arith) (ap (λ z. z.1.0.now) w.self-is)
    ]
