use Rattle.std.proofs.Common.{◌∷◌, [], ℕ, arith}
use mathlib.Core.Path.{subst}
use Rattle.runs.specs.declared.TheConstants.{OPEN}
use Rattle.flattening.specs.Writers.{Appended}
use Rattle.flattening.proofs.WriterSteps.{appended_more}
use Rattle.flattening.proofs.brackets.Bracket.open.Goals.{in-Plain, in-Sum}
use Rattle.flattening.proofs.brackets.Bracket.open.Goals as goal

pub returns : goal.returns
returns c =
    let both = appended_more c.push.ensures c.push-2.ensures (omega (arith, c.requires, c.push.ensures.end)) in
    elim c.match-self.branch [
      | in-Plain w ↦ rw w.in-Plain.is (subst (λ (n : ℕ). Appended c.args.out.now c.push-2.new.self (n ∷ OPEN ∷ [])) w.name-is both)
      | in-Sum w ↦ rw w.in-Sum.is (subst (λ (n : ℕ). Appended c.args.out.now c.push-2.new.self (n ∷ OPEN ∷ [])) w.name-is both)
    ]
