-- What kind `complete` is asked, what its schemes decide, and what it claims, in an area. Definitions only.
use Rattle.std.specs.Prelude.{ℕ, ◌+◌, ◌*◌, ◌<◌, ◌≤◌, ◌≡◌, List, length, Bool, false, Option, Some, None}
use Rattle.rules.specs.Bytes.{Text}
use Rattle.rules.specs.Tree.{size}
use Rattle.rules.specs.Substitution.{instantiate}
use Rattle.rules.specs.Solving.{unify}
use Rattle.rules.specs.Sheet.{Member}
use Rattle.rules.specs.Variants.{scheme_count, complete}
use Rattle.laws.specs.Schemes.{scheme_at, Judgement, pending, settled, judge_verdict, judged_from}
use Rattle.tree.specs.declared.area.Area.{Area}
use Rattle.tree.specs.Areas.{tree_in, trees_in, CellIn, Grows}
use Rattle.substitution.specs.Areas.{bindings_in}
use Rattle.forms.specs.Members.{members_at}
use Rattle.schemes.specs.Areas.{FreshIn}
use Rattle.variables.specs.Areas.{names_in, VariablesIn}
use Rattle.families.specs.Generalizing.{AllMatched}
use Rattle.families.specs.Areas.{variants_in}
use Rattle.complete.specs.Judging.{system_of, Judgeable}
use Rattle.complete.specs.Completing.{CompleteInput}
use Rattle.complete.specs.declared.judging.Judged.{Judged}
use Rattle.complete.specs.declared.judging.Judged.TheVariants.{Pending, Missing, Over}
use Rattle.complete.specs.declared.judging.Question.{Question}

abbrev pub judged_as : Judged → Judgement
judged_as Pending = pending
judged_as Missing = settled (Some false)
judged_as Over = settled None

-- none where a scheme is not supported
abbrev pub judgement_in : Option Judged → Option Judgement
judgement_in (Some j) = Some (judged_as j)
judgement_in None = None

-- the term, its variables and the members of a question are cells of the area, and its count is that of the term's schemes
pub record Asks (a : Area) (q : Question) : Type 0 where
  pub short : length a.sheet.now ≤ 65536
  pub term : CellIn a q.schemes.term
  pub names : VariablesIn a q.names
  pub members : q.members < a.free
  pub small : size (tree_in a q.schemes.term) ≤ 4096
  pub count : q.schemes.count ≡ scheme_count (tree_in a q.schemes.term)
  pub few : q.schemes.count ≤ 4096

-- the members can be matched with the instance of a value, with 4,096 cells for it and two for each pair
abbrev pub InstanceMatched : Area → Question → ℕ → ℕ → Type 0
InstanceMatched a q value bindings =
    AllMatched a.sheet.now a.work.now (a.free + 4098 + 2 * length (names_in a q.names)) (names_in a q.names) (bindings_in a bindings) (instantiate (bindings_in a bindings) (tree_in a value)) (trees_in a q.members)

abbrev pub JudgeableIn : Area → Question → (ℕ → Text) → ℕ → Type 0
JudgeableIn a q name i = Judgeable name a.sheet.now a.work.now a.free q.named (names_in a q.names) (trees_in a q.members) (tree_in a q.schemes.term) i

-- the fresh variables have names by which the i-th scheme can be judged
pub record CanJudgeIn (a : Area) (q : Question) (i : ℕ) : Type 0 where
  pub name : ℕ → Text
  pub cells : FreshIn a q.schemes.fresh name
  pub scheme : JudgeableIn a q name i

-- each of the schemes can
pub record CanJudgeAllIn (a : Area) (q : Question) : Type 0 where
  pub name : ℕ → Text
  pub cells : FreshIn a q.schemes.fresh name
  pub schemes : (i : ℕ) → i < q.schemes.count → JudgeableIn a q name i

-- what the i-th scheme makes of what was decided before it, by such names
abbrev pub DecidesIn : Area → Question → (ℕ → Text) → ℕ → Judged → Option Judged → Type 0
DecidesIn a q name i before r =
    judgement_in r ≡ judge_verdict (names_in a q.names) (variants_in a q.members) (scheme_at name (tree_in a q.schemes.term) 0 i).value (unify 65536 (system_of name (tree_in a q.schemes.term) i)).0 (judged_as before)

-- b is a with more cells, and r is that by any names that the fresh variables have
pub record JudgesIn (a b : Area) (q : Question) (i : ℕ) (before : Judged) (r : Option Judged) : Type 0 where
  pub grows : Grows a b
  pub decides : (name : ℕ → Text) → FreshIn a q.schemes.fresh name → DecidesIn a q name i before r

-- the answer of all schemes
pub record JudgesAllIn (a b : Area) (q : Question) (r : Option Bool) : Type 0 where
  pub grows : Grows a b
  pub answers : (name : ℕ → Text) → FreshIn a q.schemes.fresh name → r ≡ judged_from name (tree_in a q.schemes.term) (names_in a q.names) (variants_in a q.members) 0 pending

-- the sheet is one of kind `complete`: its term is that of cell term, its members stand from `at` on; at most `named` names are in a scheme
abbrev pub CompleteInputIn : Area → ℕ → ℕ → ℕ → Type 0
CompleteInputIn a term named at = CompleteInput a.sheet.now a.work.now a.free term named at

-- b is a with more cells, and r says whether the members from `at` on are complete for the term
pub record ClaimsCompleteIn (a b : Area) (term at : ℕ) (r : Option Bool) : Type 0 where
  pub grows : Grows a b
  pub claim : (ms : List Member) → members_at a.sheet.now at ≡ Some ms → r ≡ complete (tree_in a term) ms
