use Rattle.std.proofs.Common.{refl, sym, subst, ap, ap₂, ◌∙◌, ◌++◌, arith, rules}
use Rattle.rules.specs.Page.{page, page_count}
use Rattle.laws.specs.Laying.{Columned}
use Rattle.answers.specs.Deciding.{lines_text}
use Rattle.pages.proofs.Held.{lines_columned, page_room, ends}
use Rattle.pages.proofs.Giving.{put_fits, part_put, rest_put}
use Rattle.pages.proofs.put_pages.Goals as goal

pub overflow_sub-start : goal.overflow_sub-start
overflow_sub-start c =
    let a = c.args in
    omega (arith, page_room (lines_text a.area.now a.lines) (lines_columned a.area.now a.lines c.requires.columned), c.requires.needs)

pub unwrap-requires : goal.unwrap-requires
unwrap-requires c =
    let h = lines_columned c.args.area.now c.args.lines c.requires.columned in
    put_fits c.put_lines.ensures (ends h c.requires.needs)

pub lay_out-requires-clause-answer : goal.lay_out-requires-clause-answer
lay_out-requires-clause-answer c =
    let h = lines_columned c.args.area.now c.args.lines c.requires.columned in
    subst Columned (sym (part_put c.put_lines.ensures (ends h c.requires.needs) refl (search rules))) h

pub lay_out-requires-clause-count : goal.lay_out-requires-clause-count
lay_out-requires-clause-count c =
    let h = lines_columned c.args.area.now c.args.lines c.requires.columned in
    c.requires.needs.1 ∙ ap page_count (sym (part_put c.put_lines.ensures (ends h c.requires.needs) refl (search rules)))

pub returns : goal.returns
returns c =
    let h = lines_columned c.args.area.now c.args.lines c.requires.columned in
    let e = ends h c.requires.needs in
    c.lay_out.ensures ∙ ap₂ (λ x y. page x ++ y) (part_put c.put_lines.ensures e refl (search rules)) (rest_put c.put_lines.ensures e refl (search rules))
