use mathlib.Core.Path.{◌≡◌, sym, ◌∙◌}
use Rattle.std.specs.Prelude.{Result, Err}
use Rattle.std.proofs.Common.{rules}
use Rattle.rules.specs.declared.Ending.{Ending}
use Rattle.rules.specs.declared.Ending.TheVariants.{Unsupported}
use Rattle.elimination.specs.Areas.{pairs_in}
use Rattle.elimination.specs.declared.Next.{Next}
use Rattle.stepping.proofs.Taking.{stuck_rooted, decomposed_as}
use Rattle.stepping.proofs.decompose.Goals as goal
use Rattle.stepping.proofs.decompose.Goals.{else-eq-via-then-eq+else-refuted, else-eq-via-else-eq}

pub returns-then-refuted : goal.returns-then-refuted
returns-then-refuted c =
    let a = c.args.area.now in
    let f = c.args.front in
    let i = c.requires.front in
    let e : ◌≡◌ {A = Result Next Ending} c.take_roots-rooted.result (Err Unsupported) = search rules in
    let s = rw e at c.take_roots-rooted.ensures in
    (stuck_rooted f.left f.right (pairs_in a f.rest) (i.0, i.1) s.1 s.0 (sym c.refuted.ensures ∙ c.if-refuted.true), s.1)

pub returns : goal.returns
returns c =
    let f = c.args.front in
    let i = c.requires.front in
    decomposed_as c.args.area.now c.take_roots-rooted.new.area _ f.left f.right (pairs_in c.args.area.now f.rest) c.take_roots-rooted.result c.map.result (i.0, i.1) c.requires.differ c.take_roots-rooted.ensures
    (elim c.else-eq.branch [
      | else-eq-via-then-eq+else-refuted w ↦ λ e. sym w.refuted.ensures ∙ w.if-refuted.false
      | else-eq-via-else-eq w ↦ λ e. absurd (search rules)
    ])
    c.map.ensures.cases (λ x y q. search rules)
