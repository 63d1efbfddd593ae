use Rattle.std.proofs.Common.{refl, arith, rules, Some, sym, ap, ◌∙◌}
use Rattle.syntax.specs.declared.symbols.Symbol.TheVariants.{Shut, Comma}
use Rattle.syntax.proofs.Meanings.{means_is}
use Rattle.flattening.proofs.WriterStates.{writing_starts, name_room, open_room, mark_room, open_turn, name_turn, comma_turn, shut_turn, kept_as, stack_kept_as, no_symbol, no_name, no_next, no_delimiter, finish_turn}
use Rattle.flattening.proofs.text_words.Goals as goal

pub term-init : goal.term-init
term-init c = (refl, refl, writing_starts c.requires _ _ refl refl refl refl)

pub returns-in_err-name-clause-written : goal.returns-in_err-name-clause-written
returns-in_err-name-clause-written c = rw c.from_residual.ensures (no_symbol c.requires c.term.invariant.2 (sym c.in_err-name.was ∙ c.next_symbol.ensures))

pub returns-in_default : goal.returns-in_default
returns-in_default c =
    let h = c.term.invariant.2 in
    record {
      words = kept_as c.requires h (search rules);
      stack = stack_kept_as c.requires h (search rules);
      written = no_name c.requires h (sym c.in_ok-name.was ∙ c.next_symbol.ensures) (λ p e. c.in_default.not-Name p cc);
    }

pub returns-in_err-inner-clause-written : goal.returns-in_err-inner-clause-written
returns-in_err-inner-clause-written c = rw c.from_residual-in_err-inner.ensures (no_next c.requires c.term.invariant.2 (ap Some (sym c.in-Name.is) ∙ sym c.in_ok-name.was ∙ c.next_symbol.ensures) (sym c.in_err-inner.was ∙ c.next_symbol-in-term.ensures))

pub open_list-requires-clause-name : goal.open_list-requires-clause-name
open_list-requires-clause-name c =
    let n = name_room c.requires c.term.invariant.2 (ap Some (sym c.in-Name.is) ∙ sym c.in_ok-name.was ∙ c.next_symbol.ensures) in
    let f = c.requires.placed.fits in
    let s = c.requires.placed.small in
    (n.0, omega arith, omega arith)

pub open_list-requires-clause-depth : goal.open_list-requires-clause-depth
open_list-requires-clause-depth c = (name_room c.requires c.term.invariant.2 (ap Some (sym c.in-Name.is) ∙ sym c.in_ok-name.was ∙ c.next_symbol.ensures)).6

pub open_list-requires-clause-room : goal.open_list-requires-clause-room
open_list-requires-clause-room c =
    (open_room c.requires c.term.invariant.2 (ap Some (sym c.in-Name.is) ∙ sym c.in_ok-name.was ∙ c.next_symbol.ensures) (ap Some (sym c.in-Begin.is) ∙ sym c.in_ok-inner.was ∙ c.next_symbol-in-term.ensures)).2

pub term-smaller-in-Begin : goal.term-smaller-in-Begin
term-smaller-in-Begin c =
    let e = ap Some (sym c.in-Name.is) ∙ sym c.in_ok-name.was ∙ c.next_symbol.ensures in
    let n = name_room c.requires c.term.invariant.2 e in
    let b = open_room c.requires c.term.invariant.2 e (ap Some (sym c.in-Begin.is) ∙ sym c.in_ok-inner.was ∙ c.next_symbol-in-term.ensures) in
    omega arith

pub term-preserved-in-Begin : goal.term-preserved-in-Begin
term-preserved-in-Begin c =
    let t = c.term.invariant in
    let o = c.open_list.ensures in
    (o.words.lent ∙ t.0, o.opens.lent ∙ t.1, open_turn c.requires t.2 (ap Some (sym c.in-Name.is) ∙ sym c.in_ok-name.was ∙ c.next_symbol.ensures) (ap Some (sym c.in-Begin.is) ∙ sym c.in_ok-inner.was ∙ c.next_symbol-in-term.ensures) o)

pub word-requires : goal.word-requires
word-requires c =
    let n = name_room c.requires c.term.invariant.2 (ap Some (sym c.in-Name.is) ∙ sym c.in_ok-name.was ∙ c.next_symbol.ensures) in
    let s = c.requires.placed.small in
    (omega arith, omega arith, omega arith)

pub push-requires : goal.push-requires
push-requires c = (name_room c.requires c.term.invariant.2 (ap Some (sym c.in-Name.is) ∙ sym c.in_ok-name.was ∙ c.next_symbol.ensures)).3

pub loop-next-init : goal.loop-next-init
loop-next-init c =
    let e = ap Some (sym c.in-Name.is) ∙ sym c.in_ok-name.was ∙ c.next_symbol.ensures in
    (refl, refl, omega arith, name_turn c.requires c.term.invariant.2 e c.next_symbol-in-term.ensures (λ u f. c.in_default-2.not-Begin u (let w = c.in_ok-inner.was in cc)) c.word.ensures c.push.ensures)

pub returns-in_err-next : goal.returns-in_err-next
returns-in_err-next c =
    let h = c.loop-next.invariant.3 in
    record {
      words = kept_as c.requires h (search rules);
      stack = stack_kept_as c.requires h (search rules);
      written = rw c.from_residual-in_err-next.ensures (no_symbol c.requires h (sym c.in_err-next.was ∙ c.next_symbol-in-loop-next.ensures));
    }

pub returns-then-stack-eq0 : goal.returns-then-stack-eq0
returns-then-stack-eq0 c =
    let h = c.loop-next.invariant.3 in
    record {
      words = kept_as c.requires h (search rules);
      stack = stack_kept_as c.requires h (search rules);
      written = finish_turn c.requires h (sym c.in_ok-next.was ∙ c.next_symbol-in-loop-next.ensures) c.if-stack-eq0.true c.finished.ensures (search rules);
    }

pub push-requires-in-Comma : goal.push-requires-in-Comma
push-requires-in-Comma c =
    (mark_room c.requires c.loop-next.invariant.3 (means_is _ _ (ap Some (sym c.in-Comma.is) ∙ sym c.in_ok-next.was ∙ c.next_symbol-in-loop-next.ensures) (Some (Comma _)) refl)).2

pub term-smaller : goal.term-smaller
term-smaller c =
    let n = name_room c.requires c.term.invariant.2 (ap Some (sym c.in-Name.is) ∙ sym c.in_ok-name.was ∙ c.next_symbol.ensures) in
    let i = c.loop-next.invariant in
    let m = mark_room c.requires i.3 (means_is _ _ (ap Some (sym c.in-Comma.is) ∙ sym c.in_ok-next.was ∙ c.next_symbol-in-loop-next.ensures) (Some (Comma _)) refl) in
    omega arith

pub term-preserved : goal.term-preserved
term-preserved c =
    let t = c.term.invariant in
    let i = c.loop-next.invariant in
    let g = c.push-in-Comma.ensures in
    (g.lent ∙ i.0 ∙ c.push.ensures.lent ∙ t.0, i.1 ∙ t.1, comma_turn c.requires i.3 (ap Some (sym c.in-Comma.is) ∙ sym c.in_ok-next.was ∙ c.next_symbol-in-loop-next.ensures) c.if-stack-eq0.false g)

pub close-requires : goal.close-requires
close-requires c =
    (mark_room c.requires c.loop-next.invariant.3 (means_is _ _ (ap Some (sym c.in-Shut.is) ∙ sym c.in_ok-next.was ∙ c.next_symbol-in-loop-next.ensures) (Some (Shut _)) refl)).2

pub loop-next-smaller : goal.loop-next-smaller
loop-next-smaller c =
    let m = mark_room c.requires c.loop-next.invariant.3 (means_is _ _ (ap Some (sym c.in-Shut.is) ∙ sym c.in_ok-next.was ∙ c.next_symbol-in-loop-next.ensures) (Some (Shut _)) refl) in
    omega arith

pub loop-next-preserved : goal.loop-next-preserved
loop-next-preserved c =
    let i = c.loop-next.invariant in
    let e = ap Some (sym c.in-Shut.is) ∙ sym c.in_ok-next.was ∙ c.next_symbol-in-loop-next.ensures in
    let m = mark_room c.requires i.3 (means_is _ _ e (Some (Shut _)) refl) in
    (c.close.ensures.lent ∙ i.0, ap (λ x. x.ghost_name) c.pop.ensures.words ∙ i.1, omega arith, shut_turn c.requires i.3 e c.pop.ensures c.close.ensures)

pub returns-in_default-next : goal.returns-in_default-next
returns-in_default-next c =
    let h = c.loop-next.invariant.3 in
    record {
      words = kept_as c.requires h (search rules);
      stack = stack_kept_as c.requires h (search rules);
      written = no_delimiter c.requires h (sym c.in_ok-next.was ∙ c.next_symbol-in-loop-next.ensures) (λ t e. c.in_default-next.not-Comma t cc) (λ t e. c.in_default-next.not-Shut t cc) c.if-stack-eq0.false;
    }
