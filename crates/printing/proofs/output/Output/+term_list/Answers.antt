use Rattle.std.proofs.Common.{sym, ap, ◌∙◌, arith}
use Rattle.printing.proofs.Rendering.{render_variable, render_atom, render_application, marked_open, marked_close, marked_more}
use Rattle.printing.proofs.Puts.{puts_then, puts_past, puts_as}
use Rattle.printing.proofs.output.Output.+term_list.Goals as goal
use Rattle.printing.proofs.output.Output.+term_list.Goals.{list-then-mark-eq40, list-else-mark-eq40}

-- a list
pub list-returns-then-i-eq0 : goal.list-returns-then-i-eq0
list-returns-then-i-eq0 t c =
    let a = c.args in
    elim c.if-mark-eq40.branch [
      | list-then-mark-eq40 w ↦ puts_as (ap (λ r. r.now) w.end-is ∙ sym (marked_open a.area.now a.i a.mark c.if-i-eq0.true w.if-mark-eq40.true)) c.text.ensures
      | list-else-mark-eq40 w ↦ puts_as (ap (λ r. r.now) w.end-is ∙ sym (marked_close a.area.now a.i a.mark c.if-i-eq0.true w.if-mark-eq40.false)) c.text.ensures
    ]

pub list-returns-in_err-text : goal.list-returns-in_err-text
list-returns-in_err-text t c =
    let e = marked_more c.args.area.now c.args.i c.args.mark (omega arith) c.requires in
    rw (c.from_residual.ensures, e) (puts_past _ c.in_err-text.ensures)

pub list-returns-in_err-term : goal.list-returns-in_err-term
list-returns-in_err-term t c =
    let e = marked_more c.args.area.now c.args.i c.args.mark (omega arith) c.requires in
    rw (c.from_residual-in_err-term.ensures, e) (puts_then c.in_ok-text.ensures (puts_past _ c.in_err-term.ensures))

pub list-returns : goal.list-returns
list-returns t c =
    let e = marked_more c.args.area.now c.args.i c.args.mark (omega arith) c.requires in
    rw (e, ← c.next_of.ensures.next) (puts_then c.in_ok-text.ensures (puts_then c.in_ok-term.ensures c.list.ensures))

-- an application
pub term-returns-in_err-name-in-Application : goal.term-returns-in_err-name-in-Application
term-returns-in_err-name-in-Application t c =
    let e = render_application c.args.area.now c.args.i (sym c.kind.ensures ∙ c.in-Application.is) in
    rw (c.from_residual.ensures, e) (puts_past _ c.in_err-name-in-Application.ensures)

pub term-returns-in_ok-name-in-Application : goal.term-returns-in_ok-name-in-Application
term-returns-in_ok-name-in-Application t c =
    let e = render_application c.args.area.now c.args.i (sym c.kind.ensures ∙ c.in-Application.is) in
    rw (e, ← c.first_of.ensures.first) (puts_then c.in_ok-name-in-Application.ensures c.list.ensures)

-- a variable
pub term-returns-in-Variable : goal.term-returns-in-Variable
term-returns-in-Variable t c = puts_as (sym (render_variable c.args.area.now c.args.i c.in-Variable.field-0 (sym c.kind.ensures ∙ c.in-Variable.is))) c.name-in-Variable.ensures

-- an atom
pub term-returns-in_err-text-in-Atom : goal.term-returns-in_err-text-in-Atom
term-returns-in_err-text-in-Atom t c =
    let e = render_atom c.args.area.now c.args.i c.in-Atom.letter (sym c.kind.ensures ∙ c.in-Atom.is) in
    rw (c.from_residual-in_err-text-in-Atom.ensures, e) (puts_past _ c.in_err-text-in-Atom.ensures)

pub term-returns-in_err-name-in-Atom : goal.term-returns-in_err-name-in-Atom
term-returns-in_err-name-in-Atom t c =
    let e = render_atom c.args.area.now c.args.i c.in-Atom.letter (sym c.kind.ensures ∙ c.in-Atom.is) in
    rw (c.from_residual-in_err-name-in-Atom.ensures, e) (puts_then c.in_ok-text-in-Atom.ensures (puts_past _ c.in_err-name-in-Atom.ensures))

pub term-returns-in_ok-name-in-Atom : goal.term-returns-in_ok-name-in-Atom
term-returns-in_ok-name-in-Atom t c =
    let e = render_atom c.args.area.now c.args.i c.in-Atom.letter (sym c.kind.ensures ∙ c.in-Atom.is) in
    puts_as (sym e) (puts_then c.in_ok-text-in-Atom.ensures (puts_then c.in_ok-name-in-Atom.ensures c.text-in-Atom.ensures))
