use Prim.Native.Nat.{ℕ, ◌+◌, ◌*◌, ◌<◌, ◌≤◌}
use mathlib.Core.List.{List}
use lib.ListN.{length, take}
use native.Mathlib.Omega.{arith}
use Rattle.std.proofs.Common.{rules}
use mathlib.Core.Path.{◌≡◌, refl, sym, ap, ◌∙◌}
use Rattle.rules.specs.Bytes.{Text}
use Rattle.rules.specs.Tree.{Trees, sizes}
use Rattle.rules.specs.Solving.{unify}
use Rattle.tree.specs.Arena.{Arena}
use Rattle.elimination.specs.Stack.{pairs_of, pairs_at}
use Rattle.elimination.specs.declared.room.TheConstants.{STEP_WORDS}
use Rattle.unifier.specs.Areas.{spared_end}
use Rattle.unifier.proofs.Sparing.{roomy_few, part_is, spared_arena, spared_trees, spared_length, spared_whole, spared_answers, spared_ends}
use Rattle.unifier.proofs.unifying.unify_sparing.Goals as goal

-- the words of the run
abbrev limit : ℕ → ℕ → ℕ → ℕ → ℕ
limit free nodes fuel names = 4 * spared_end free nodes fuel names + STEP_WORDS

-- the run is over the same pairs
same_run : {s : Text} {w f : List ℕ} {n : ℕ} (most : ℕ) → most ≤ length w → 4 * n ≤ most → Arena s w n → f ≡ take most w → (k : ℕ) → k < n → (fuel : ℕ) → unify fuel (pairs_at s f k) ≡ unify fuel (pairs_at s w k)
same_run {s} most h l a e k q fuel = ap (λ (v : List ℕ). unify fuel (pairs_at s v k)) e ∙ ap (λ (ts : Trees). unify fuel (pairs_of ts)) (sym (spared_trees most h l a k q))

pub invariant_of-part : goal.invariant_of-part
invariant_of-part c =
    let a = c.args in
    let p = c.split_at_mut-lent.ensures in
    let x = part_is _ _ _ (limit a.area.now.free a.nodes a.fuel a.names) p.value p.front_len in
    record { arena = rw x.0 (spared_arena _ (omega arith) (omega arith) a.area.now.arena) }

pub unify-answer-requires-clause-stack : goal.unify-answer-requires-clause-stack
unify-answer-requires-clause-stack c =
    let a = c.args in
    let h = c.requires.stack in
    let p = c.split_at_mut-lent.ensures in
    let x = part_is _ _ _ (limit a.area.now.free a.nodes a.fuel a.names) p.value p.front_len in
    rw (x.0, ← spared_trees (limit a.area.now.free a.nodes a.fuel a.names) (omega arith) (omega arith) a.area.now.arena a.stack h.0) h

pub unify-answer-requires-clause-room : goal.unify-answer-requires-clause-room
unify-answer-requires-clause-room c =
    let a = c.args in
    let h = c.requires.stack in
    let p = c.split_at_mut-lent.ensures in
    let x = part_is _ _ _ (limit a.area.now.free a.nodes a.fuel a.names) p.value p.front_len in
    rw (x.0, ← spared_trees (limit a.area.now.free a.nodes a.fuel a.names) (omega arith) (omega arith) a.area.now.arena a.stack h.0)
    (roomy_few _ _ a.nodes a.names (spared_length _ (omega arith) (omega arith) a.area.now.arena) c.requires.room.1 (c.requires.counts.0 ∙ ap sizes (sym h.1)) c.requires.counts.1)

pub invariant_of-area : goal.invariant_of-area
invariant_of-area c =
    let a = c.args in
    let p = c.split_at_mut-lent.ensures in
    let x = part_is _ _ _ (limit a.area.now.free a.nodes a.fuel a.names) p.value p.front_len in
    record { arena = rw x.1 (spared_whole a.area.now (limit a.area.now.free a.nodes a.fuel a.names) (omega arith) (omega arith) refl x.0 refl c.unify-answer.ensures.grows _ (search rules)) }

pub returns-clause-answers : goal.returns-clause-answers
returns-clause-answers c =
    let a = c.args in
    let p = c.split_at_mut-lent.ensures in
    let x = part_is _ _ _ (limit a.area.now.free a.nodes a.fuel a.names) p.value p.front_len in
    let e = same_run (limit a.area.now.free a.nodes a.fuel a.names) (omega arith) (omega arith) a.area.now.arena x.0 a.stack c.requires.stack.0 a.fuel in
    spared_answers a.area.now (limit a.area.now.free a.nodes a.fuel a.names) (omega arith) (omega arith) refl x.0 refl c.unify-answer.ensures.grows _ (search rules) x.1 (record { work = refl; sheet = refl }) refl refl _ _ (rw e at c.unify-answer.ensures)

pub returns-clause-ends : goal.returns-clause-ends
returns-clause-ends c =
    let a = c.args in
    let p = c.split_at_mut-lent.ensures in
    let x = part_is _ _ _ (limit a.area.now.free a.nodes a.fuel a.names) p.value p.front_len in
    spared_ends a.area.now (limit a.area.now.free a.nodes a.fuel a.names) (omega arith) (omega arith) refl x.0 refl c.unify-answer.ensures.grows _ refl _ _ c.unify-answer.ensures.bound refl
