-- The schemes of a question one after the other: what each makes of what was decided before it.
use Prim.Native.Nat.{ℕ, ◌+◌, ◌<◌, ◌≤◌}
use mathlib.Core.Path.{◌≡◌, refl, sym, ap, subst, ◌∙◌}
use Rattle.std.specs.Prelude.{Bool, Option, Some, None}
use lib.ListN.{length}
use native.Mathlib.Omega.{arith}
use Rattle.rules.specs.Bytes.{Text}
use Rattle.rules.specs.Maybe.{◌>>=◌}
use Rattle.rules.specs.Tree.{size}
use Rattle.rules.specs.Solving.{unify}
use Rattle.rules.specs.Variants.{scheme_count}
use Rattle.laws.specs.Schemes.{Judgement, pending, answered, judged_from}
use Rattle.laws.proofs.Variants.OnePass.{judged_next, judged_end}
use Rattle.tree.specs.declared.area.Area.{Area}
use Rattle.tree.specs.Areas.{tree_in, trees_in, KeepsCells, Grows}
use Rattle.tree.proofs.Keeping.{keeps_then, grows_keeps, grows_then, grows_length, grows_tree, grows_trees}
use Rattle.schemes.specs.Areas.{FreshIn}
use Rattle.variables.specs.Areas.{names_in}
use Rattle.variables.proofs.Listed.{variables_grown}
use Rattle.families.specs.Areas.{variants_in}
use Rattle.complete.specs.Judging.{system_of, Judgeable}
use Rattle.complete.specs.Areas.{judged_as, judgement_in, Asks, CanJudgeIn, CanJudgeAllIn, DecidesIn, JudgesIn, JudgesAllIn}
use Rattle.complete.specs.declared.judging.Judged.{Judged}
use Rattle.complete.specs.declared.judging.Question.{Question}
use Rattle.complete.proofs.Deciding.{judgeable_same}

-- a question is the same in an area with more cells
module _ {a b : Area} (g : Grows a b) (q : Question) (k : Asks a q) where
  pub term_kept : tree_in b q.schemes.term ≡ tree_in a q.schemes.term
  term_kept = grows_tree g q.schemes.term k.term.1 k.term.0

  pub names_kept : trees_in b q.names ≡ trees_in a q.names
  names_kept = grows_trees g q.names k.names.inside

  pub members_kept : trees_in b q.members ≡ trees_in a q.members
  members_kept = grows_trees g q.members k.members

  pub asks_kept : Asks b q
  asks_kept =
      let s = ap (λ s. length s.now) g.lent.sheet in
      let e = ap size term_kept in
      record {
        short = omega (arith, s, k.short);
        term = (k.term.0, omega (arith, k.term.1, g.grew));
        names = variables_grown g k.names;
        members = omega (arith, k.members, g.grew);
        small = omega (arith, k.small, e);
        count = k.count ∙ ap scheme_count (sym term_kept);
        few = k.few;
      }

  pub fresh_kept : {name : ℕ → Text} → FreshIn a q.schemes.fresh name → FreshIn b q.schemes.fresh name
  fresh_kept f = record {
    some_cell = f.some_cell;
    inside = omega (arith, f.inside, g.grew);
    trees = λ i l. grows_tree g (q.schemes.fresh + i) (omega (arith, f.inside)) (omega (arith, f.some_cell)) ∙ f.trees i l;
  }

-- the schemes before the i-th decide as state says
pub record GoingIn (a b : Area) (q : Question) (i : ℕ) (state : Judged) : Type 0 where
  pub keeps : KeepsCells a b
  pub are : (name : ℕ → Text) → FreshIn a q.schemes.fresh name
      → judged_from name (tree_in a q.schemes.term) (names_in a q.names) (variants_in a q.members) 0 pending ≡ judged_from name (tree_in a q.schemes.term) (names_in a q.names) (variants_in a q.members) i (judged_as state)

module _ {a b : Area} {q : Question} {i : ℕ} {state : Judged} (k : Asks a q) (h : GoingIn a b q i state) where
  now : Grows a b
  now = grows_keeps h.keeps

  abbrev judging : (ℕ → Text) → ℕ → Judgement → Option Bool
  judging name j d = judged_from name (tree_in a q.schemes.term) (names_in a q.names) (variants_in a q.members) j d

  pub here_asks : Asks b q
  here_asks = asks_kept now q k

  pub here_judgeable : CanJudgeAllIn a q → i < q.schemes.count → CanJudgeIn b q i
  here_judgeable g l = record {
    name = g.name;
    cells = fresh_kept now q k g.cells;
    scheme =
        let j : Judgeable g.name a.sheet.now b.work.now b.free q.named (names_in a q.names) (trees_in a q.members) (tree_in a q.schemes.term) i = rw h.keeps.end (judgeable_same g.name (grows_length now) (g.schemes i l)) in
        rw (names_kept now q k, members_kept now q k, term_kept now q k) (subst (λ s. Judgeable g.name s.now b.work.now b.free q.named (names_in a q.names) (trees_in a q.members) (tree_in a q.schemes.term) i) (sym now.lent.sheet) j);
  }

  pub going_ends : q.schemes.count ≤ i → {r : Option Bool} → r ≡ answered (judged_as state) → JudgesAllIn a b q r
  going_ends l e = record {
    grows = now;
    answers = λ name f. e ∙ sym (h.are name f ∙ judged_end name (tree_in a q.schemes.term) (names_in a q.names) (variants_in a q.members) i (judged_as state) (omega (arith, l, k.count)));
  }

  module _ (l : i < q.schemes.count) {d : Area} {r : Option Judged} (y : JudgesIn b d q i state r) where
    onward : (name : ℕ → Text) → FreshIn a q.schemes.fresh name → judging name 0 pending ≡ (judgement_in r >>= λ j. judging name (i + 1) j)
    onward name f =
        let e : DecidesIn a q name i state r = rw (sym (names_kept now q k), sym (members_kept now q k), sym (term_kept now q k)) (y.decides name (fresh_kept now q k f)) in
        h.are name f
        ∙ judged_next name (tree_in a q.schemes.term) (names_in a q.names) (variants_in a q.members) i (judged_as state) (unify 65536 (system_of name (tree_in a q.schemes.term) i)).0 (omega (arith, l, k.count)) refl
        ∙ ap (λ (o : Option Judgement). o >>= λ j. judging name (i + 1) j) (sym e)

    pub going_unsupported : r ≡ None → JudgesAllIn a d q None
    going_unsupported e = record { grows = grows_then now y.grows; answers = λ name f. sym (onward name f ∙ ap (λ (x : Option Judged). judgement_in x >>= λ j. judging name (i + 1) j) e) }

    pub going_turn : {g : Area} {next : Judged} → r ≡ Some next → KeepsCells b g → GoingIn a g q (i + 1) next
    going_turn {g} e keeps = record { keeps = keeps_then h.keeps keeps; are = λ name f. onward name f ∙ ap (λ (x : Option Judged). judgement_in x >>= λ j. judging name (i + 1) j) e }
