-- What the match of pairs says that can be matched with the fuel and the room there are.
use Prim.Native.Nat.{ℕ, ◌+◌, ◌*◌, ◌<◌, ◌≤◌}
use mathlib.Core.Path.{◌≡◌, refl, sym, ap, subst, ◌∙◌}
use mathlib.Core.Bool.{Bool, not}
use mathlib.Core.List.{List}
use denote.Enum.Bare.{sameb}
use Rattle.std.specs.Prelude.{Result, Ok, Err}
use Rattle.std.specs.Result.{result_eq}
use lib.Dec.{eqb}
use lib.ListN.{length}
use native.Mathlib.Omega.{arith}
use Rattle.rules.specs.Substitution.{Pair, flatten}
use Rattle.rules.specs.Solving.{Answer}
use Rattle.rules.specs.Matching.{matcher}
use Rattle.rules.specs.Cover.{is_failed, covering}
use Rattle.rules.specs.declared.Ending.{Ending}
use Rattle.rules.specs.declared.Ending.TheVariants as ending
use Rattle.rules.specs.contracts.Ending.{the_type}
use Rattle.laws.specs.Memory.{weight}
use Rattle.laws.proofs.Solving.MatchFuel.{matcher_enough}
use Rattle.tree.specs.declared.area.Area.{Area}
use Rattle.tree.specs.Areas.{trees_in, Grows}
use Rattle.tree.proofs.Keeping.{grows_length}
use Rattle.substitution.specs.Answers.{verdict_in}
use Rattle.substitution.specs.declared.answer.Answer.{Answer as Answered}
use Rattle.elimination.specs.Stack.{FitPairs}
use Rattle.elimination.specs.Area.{Room}
use Rattle.elimination.proofs.Tops.{pairs_are, whole_are}
use Rattle.elimination.specs.Areas.{pairs_in}
use Rattle.elimination.specs.Fronts.{StackIn}
use Rattle.unifier.specs.Areas.{AnswersIn}
use Rattle.unifier.specs.Matched.{Matched}

-- the test of a verdict, as the code has it
abbrev pub has_failed : Result ℕ Ending → Bool
has_failed v = result_eq eqb (sameb the_type) v (Err ending.Failed)

says_failed : (m : Area) (v : Result ℕ Ending) → is_failed (verdict_in m v) ≡ has_failed v
says_failed m (Ok b) = refl
says_failed m (Err ending.Failed) = refl
says_failed m (Err ending.Unsupported) = refl

-- the list from cell i of d on is that of the pairs qs, which can be matched after n cells
module _ {a d : Area} {qs : List Pair} {n i : ℕ} (grows : Grows a d) (inside : i < d.free) (trees : trees_in d i ≡ flatten qs) (used : d.free ≤ n) (k : Matched a.sheet.now a.work.now n qs) where
  pairs : pairs_in d i ≡ qs
  pairs = pairs_are qs trees

  same_sheet : length d.sheet.now ≡ length a.sheet.now
  same_sheet = ap (λ s. length s.now) grows.lent.sheet

  pub match_stack : StackIn d i
  match_stack = (inside, whole_are qs trees, subst FitPairs (sym pairs) k.fit)

  pub match_room : Room d.work.now (d.free + weight (pairs_in d i) + 2 * length d.sheet.now)
  match_room =
      let w = ap weight pairs in
      let l = grows_length grows in
      let s = same_sheet in
      (omega (arith, used, k.room.0), omega (arith, used, k.room.1))

  module _ {m : Area} {x : Answered} (short : length a.sheet.now ≤ 65536) (y : AnswersIn d m (matcher (length d.sheet.now) (pairs_in d i)) x) where
    pub match_says : covering qs ≡ not (has_failed x.verdict)
    unfolding covering
    match_says =
        ap (λ (b : Answer). not (is_failed b.0))
        (matcher_enough 65536 (length d.sheet.now) qs (omega (arith, k.few)) (omega (arith, k.few, same_sheet)) ∙ ap (matcher (length d.sheet.now)) (sym pairs) ∙ y.is)
        ∙ ap not (says_failed m x.verdict)
