-- The answer to a sheet of kind `unify` or `match`: what its pairs give, and the room of the run.
use mathlib.Core.Path.{◌≡◌, refl, sym, ap, subst, ◌∙◌}
use mathlib.Core.Bool.{true}
use mathlib.Core.List.{List, []}
use Rattle.std.specs.Prelude.{Option, Some, None, Result, Ok, Err}
use Prim.Native.Nat.{ℕ, ◌+◌, ◌*◌, ◌≤◌}
use native.Mathlib.Omega.{arith}
use lib.ListN.{length}
use Rattle.rules.specs.Bytes.{Text}
use Rattle.rules.specs.Maybe.{◌>>=◌}
use Rattle.rules.specs.Tree.{Trees}
use Rattle.rules.specs.Substitution.{Pair, flatten}
use Rattle.rules.specs.Solving as rules
use Rattle.rules.specs.Sheet.{Sheet, Entry, read_sheet, words_needed}
use Rattle.rules.specs.Answer.{read_pairs, verdict_lines, answer_of}
use Rattle.rules.specs.declared.Ending.{Ending}
use Rattle.rules.specs.declared.Refusal.TheVariants.{UnreadableTerm}
use Rattle.laws.specs.Memory.{weight, sheet_pairs}
use Rattle.laws.specs.Laying.{all_columned, verdict_entries}
use Rattle.laws.proofs.Sheets.BuiltRun.{Writable, unify_writable}
use Rattle.laws.proofs.Sheets.BuiltMatch.{matcher_writable}
use Rattle.laws.proofs.Sheets.Calls.{pairs_read}
use Rattle.laws.proofs.Sheets.PageAnswers.{verdict_fit}
use Rattle.tree.specs.declared.area.Area.{Area}
use Rattle.tree.specs.Areas.{trees_in, Lent}
use Rattle.tree.proofs.Keeping.{grows_then}
use Rattle.sheet.specs.declared.Cursor.{Cursor}
use Rattle.forms.specs.Form.{asks_by, sheet_of, Within}
use Rattle.forms.specs.declared.form.Form.{Form}
use Rattle.forms.specs.declared.form.Form.TheVariants as form
use Rattle.forms.specs.declared.form.Solver.{Solver}
use Rattle.forms.specs.declared.form.Solver.TheVariants as solver
use Rattle.forms.proofs.WalkLaws.{solved_pairs}
use Rattle.elimination.specs.Stack.{pairs_of, Whole, FitPairs}
use Rattle.elimination.specs.Area.{Room}
use Rattle.unifier.specs.Running.{Roomy}
use Rattle.elimination.specs.Areas.{pairs_in}
use Rattle.unifier.specs.Areas.{AnswersIn, HoldsBound}
use Rattle.substitution.specs.declared.answer.Answer.{Answer}
use Rattle.substitution.specs.Answers.{answer_in}
use Rattle.elimination.proofs.Tops.{pairs_flatten}
use Rattle.steps.proofs.Fitting.{pairs_fit}
use Rattle.admission.specs.Admission.{Decoded}
use Rattle.answers.specs.Deciding.{LinesHeld}
use Rattle.answers.specs.declared.deciding.Lines.TheVariants.{Verdict}
use Rattle.pairs.specs.Areas.{InOrder}
use Rattle.sheet.specs.declared.Read.{Read}
use Rattle.kinds.specs.Outcomes.{WordsFor, Asked, solved_by, DecidesForm}
use Rattle.kinds.proofs.KindLaws.{sheet_decided, unread_decided}
use Rattle.kinds.proofs.RunRooms.{pair_names, run_words, run_cells}

-- the form
pub solve_asked : (s : Text) (v : Solver) (fuel : ℕ) (c : Cursor) → (f : Form) → f ≡ form.Solve v fuel c → Decoded s f → Asked s (asks_by v) fuel c.at
solve_asked s v fuel c f e d =
    let h = solved_pairs s v fuel c d.sheet (ap (sheet_of s) (sym e) ∙ d.decodes) in
    let w = subst (Within s) e d.within in
    record { entries = h.0; lines = h.2; reads = d.reads ∙ ap Some h.1; short = d.short; fuelled = w.0; inside = w.1 }

-- how both kinds are answered
pub record Solving (asks : ℕ → List Entry → Sheet) (solve : ℕ → List Pair → rules.Answer) : Type 0 where
  pub answers : (fuel : ℕ) (es : List Entry) → answer_of (asks fuel es) ≡ (read_pairs es >>= λ ps. Some (verdict_lines (solve fuel ps)))
  pub pairs : (fuel : ℕ) (es : List Entry) → sheet_pairs (asks fuel es) ≡ es
  pub writable : (fuel : ℕ) (es : List Entry) (ps : List Pair) → read_pairs es ≡ Some ps → Writable (solve fuel ps).0

pub solves : (v : Solver) → Solving (asks_by v) (solved_by v)
unfolding answer_of
solves solver.Unify = record {
  answers = λ fuel es. refl;
  pairs = λ fuel es. refl;
  writable = λ fuel es ps e. unify_writable fuel ps (pairs_read es ps e).0;
}
solves solver.Match = record {
  answers = λ fuel es. refl;
  pairs = λ fuel es. refl;
  writable = λ fuel es ps e. let b = pairs_read es ps e in matcher_writable fuel ps b.0 b.1;
}

-- the pairs that were read
module _ {a b : Area} {at : ℕ} {es : List Entry} {rest : List Text} {r : Read ℕ} (h : InOrder a b at es rest r) where
  pub read_whole : Whole (trees_in b r.value)
  read_whole = ap (λ (ts : Trees). flatten (pairs_of ts)) h.trees ∙ ap flatten (pairs_flatten h.ps) ∙ sym h.trees

  pub read_are : pairs_in b r.value ≡ h.ps
  read_are = ap pairs_of h.trees ∙ pairs_flatten h.ps

  pub read_fit : FitPairs (pairs_in b r.value)
  read_fit = subst FitPairs (sym read_are) (pairs_fit es h.ps h.read)

-- the bindings of a verdict are held
verdict_held : (b : Area) (v : Result ℕ Ending) (spent : ℕ) → HoldsBound b v → LinesHeld b (Verdict (record { verdict = v; spent = spent }))
verdict_held b (Ok k) spent h = (h.inside, h.chain)
verdict_held b (Err e) spent h = tt

-- the answer, by what the pairs read as
answer_is : {asks : ℕ → List Entry → Sheet} {solve : ℕ → List Pair → rules.Answer} (y : Solving asks solve) (fuel : ℕ) (es : List Entry) {o : Option (List Pair)} → read_pairs es ≡ o
    → answer_of (asks fuel es) ≡ (o >>= λ ps. Some (verdict_lines (solve fuel ps)))
answer_is {solve = solve} y fuel es e = y.answers fuel es ∙ ap (λ (o : Option (List Pair)). o >>= λ ps. Some (verdict_lines (solve fuel ps))) e

module _ {asks : ℕ → List Entry → Sheet} {solve : ℕ → List Pair → rules.Answer} (y : Solving asks solve) {a b : Area} {fuel at : ℕ} (k : Asked a.sheet.now asks fuel at) where
  pub pairs_unread : read_pairs k.entries ≡ None → Lent a b → DecidesForm (read_sheet a.sheet.now) a b (Err UnreadableTerm)
  pairs_unread e l = unread_decided k.reads (answer_is y fuel k.entries e) l

  module _ {r : Read ℕ} (empty : a.free ≡ 1) (h : InOrder a b at k.entries [] r) where
    pub read_roomy : WordsFor a.sheet.now (length a.work.now) → Roomy b.work.now b.free fuel (pairs_in b r.value)
    read_roomy enough =
        let s = a.sheet.now in
        let sheet = asks fuel k.entries in
        let words = length b.work.now in
        let p = ap read_pairs (y.pairs fuel k.entries) ∙ h.read in
        let e : words_needed s sheet ≤ words = omega (arith, enough sheet k.reads, h.grows.below.len) in
        let inside : r.next.at ≤ length s = rw h.grows.lent.sheet at h.within in
        let used : b.free ≤ 1 + 2 * length s = omega (arith, h.used) in
        let (ns, l, o) = pair_names s sheet k.reads h.ps p k.short b.free fuel words used k.fuelled e in
        subst (Roomy b.work.now b.free fuel) (sym (read_are h))
        (record {
          names = ns;
          over = o;
          room = (run_words s sheet k.reads h.ps p k.short b.free fuel words used k.fuelled e (length ns) l, run_cells s sheet k.reads h.ps p k.short b.free fuel words used k.fuelled e (length ns) l);
        })

    -- the columns of a page can hold what the run gave
    pairs_columned : {d : Area} {x : Answer} → AnswersIn b d (solve fuel (pairs_in b r.value)) x → all_columned (verdict_entries (answer_in d x)) ≡ true
    pairs_columned g =
        let z = solve fuel (pairs_in b r.value) in
        let w = y.writable fuel k.entries (pairs_in b r.value) (h.read ∙ ap Some (sym (read_are h))) in
        subst (λ (z : rules.Answer). all_columned (verdict_entries z) ≡ true) g.is (verdict_fit z.0 z.1 w)

    -- the answer, from what the run gave
    pub pairs_decided : {d : Area} {x : Answer} → AnswersIn b d (solve fuel (pairs_in b r.value)) x → DecidesForm (read_sheet a.sheet.now) a d (Ok (Verdict x))
    pairs_decided {d} {x} g =
        sheet_decided k.reads
        (answer_is y fuel k.entries (h.read ∙ ap Some (sym (read_are h))) ∙ ap (λ (z : rules.Answer). Some (verdict_lines z)) g.is)
        (grows_then h.grows g.grows).lent
        (record { reply = refl; held = verdict_held d x.verdict x.spent g.bound; columned = pairs_columned g })

-- room for `match` is less than for `unify`
pub match_room : {w : List ℕ} {n fuel : ℕ} {ps : List Pair} → Roomy w n fuel ps → Room w (n + weight ps + 2 * fuel)
match_room h = (omega (arith, h.room.0), omega (arith, h.room.1))
