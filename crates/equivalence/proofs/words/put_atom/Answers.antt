use Rattle.std.proofs.Common.{arith, ◌+◌, ◌*◌, ◌∷◌, [], ℕ}
use mathlib.Core.Path.{subst}
use Rattle.runs.specs.declared.TheConstants.{SPAN, OPEN, SHUT}
use Rattle.runs.specs.declared.order.TheConstants.{BYTES}
use Rattle.flattening.specs.Writers.{Appended}
use Rattle.flattening.proofs.WriterSteps.{appended_more}
use Rattle.equivalence.proofs.words.put_atom.Goals as goal

pub returns : goal.returns
returns c =
    let r = c.requires in
    let e₁ = c.push.ensures.end in
    let e₂ = c.push-2.ensures.end in
    let e₃ = c.push-3.ensures.end in
    let l₁ = c.push.ensures.wrote.outside.len in
    let l₂ = c.push-2.ensures.wrote.outside.len in
    subst (λ (l : ℕ). Appended c.args.out.now c.push-4.new.self ((BYTES + l) * SPAN ∷ OPEN ∷ c.args.digits ∷ SHUT ∷ [])) c.from.ensures
    (appended_more c.push.ensures (appended_more c.push-2.ensures (appended_more c.push-3.ensures c.push-4.ensures (omega arith)) (omega arith)) (omega arith))
