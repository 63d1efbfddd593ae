use mathlib.Core.Path.{refl, ◌∙◌}
use native.Mathlib.Omega.{arith}
use Rattle.std.specs.Prelude.{◌+◌, ◌≤◌}
use Rattle.std.proofs.Common.{rules}
use Rattle.layout.proofs.Turns.{heading_room, writer_behind, line_room, headed, headed_left, line_more, line_done, line_laid}
use Rattle.layout.proofs.Entering.{entered, key_found, key_room, text_found, in_text}
use Rattle.layout.proofs.entries.lay_entry.Goals as goal

pub slice_bounds-text_length-count : goal.slice_bounds-text_length-count
slice_bounds-text_length-count c =
    let t = entered c.requires.unread c.requires.some in
    omega (arith, c.length_before-key.ensures ∙ key_found t, key_room t)

pub slice_bounds-text_length-start : goal.slice_bounds-text_length-start
slice_bounds-text_length-start c =
    let t = entered c.requires.unread c.requires.some in
    let h : c.args.place.from + c.length_before-key.result + 1 ≤ c.args.end = omega (arith, c.length_before-key.ensures ∙ key_found t, key_room t) in
    search rules

pub loop-rest-init : goal.loop-rest-init
loop-rest-init c =
    let t = entered c.requires.unread c.requires.some in
    let k = c.length_before-key.ensures ∙ key_found t in
    record { begun = omega arith; text = in_text t k refl refl refl refl (c.text_length-rest.ensures ∙ text_found t k) }

pub begin_line-place-requires : goal.begin_line-place-requires
begin_line-place-requires c = heading_room c.loop-rest.invariant.text

pub put_line-requires : goal.put_line-requires
put_line-requires c =
    let t = headed c.loop-rest.invariant.text c.begin_line-place.ensures in
    let i = t.filling.inside in
    let r = t.reader in
    (t.short, omega arith, writer_behind t, omega arith, omega (arith, line_room t))

pub loop-rest-preserved : goal.loop-rest-preserved
loop-rest-preserved c =
    let h = c.begin_line-place.ensures in
    let t = headed c.loop-rest.invariant.text h in
    record {
      begun = let b = c.loop-rest.invariant.begun in let r = h.reader in omega arith;
      text =
          line_more t _ (headed_left c.loop-rest.invariant.text h) (omega arith) (omega arith) (λ e. omega arith) (λ e. omega arith) c.put_line.ensures refl refl refl
          refl refl (λ e. omega arith);
    }

pub returns-clause-unread : goal.returns-clause-unread
returns-clause-unread c =
    let h = c.begin_line-place.ensures in
    let t = headed c.loop-rest.invariant.text h in
    line_done t _ (headed_left c.loop-rest.invariant.text h) (omega arith) (omega arith) (λ e. omega arith) (λ e. omega arith) c.put_line.ensures refl refl refl refl
    (omega arith)

pub returns-clause-laid : goal.returns-clause-laid
returns-clause-laid c =
    let h = c.begin_line-place.ensures in
    let t = headed c.loop-rest.invariant.text h in
    line_laid t _ (headed_left c.loop-rest.invariant.text h) (omega arith) (omega arith) (λ e. omega arith) (λ e. omega arith) c.put_line.ensures refl refl refl refl
    (omega arith)
