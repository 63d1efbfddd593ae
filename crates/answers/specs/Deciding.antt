-- What a decision stands for: a refusal with its number, or the text of an answer. Definitions only.
use Rattle.std.specs.Prelude.{◌<◌, ◌≡◌, true, List, [], ◌∷◌, ◌++◌}
use Rattle.std.specs.Prelude.{Result, Ok, Err}
use Rattle.rules.specs.Bytes.{Text}
use Rattle.rules.specs.Text.{bytes}
use Rattle.rules.specs.Writing.{render}
use Rattle.rules.specs.Answer.{line, claim, verdict_lines}
use Rattle.rules.specs.declared.Refusal.{Refusal}
use Rattle.rules.specs.RefusalNumbers.{number_for}
use Rattle.rules.specs.Call.{Reply, refused, passed}
use Rattle.rules.specs.Sheet.{Entry}
use Rattle.laws.specs.Laying.{all_columned, verdict_entries}
use Rattle.tree.specs.declared.area.Area.{Area}
use Rattle.tree.specs.Areas.{tree_in}
use Rattle.substitution.specs.Answers.{answer_in}
use Rattle.verdicts.specs.Verdicts.{VerdictHeld, Stopped}
use Rattle.answers.specs.declared.deciding.Key.{Key}
use Rattle.answers.specs.declared.deciding.Key.TheVariants as keys
use Rattle.answers.specs.declared.deciding.Lines.{Lines}
use Rattle.answers.specs.declared.deciding.Lines.TheVariants.{Claim, Term, Verdict}

abbrev pub key_name : Key → Text
key_name keys.Equal = bytes "equal"
key_name keys.Normal = bytes "normal"
key_name keys.Sound = bytes "sound"
key_name keys.Covered = bytes "covered"
key_name keys.Complete = bytes "complete"

abbrev pub key_text : Key → Text
key_text k = key_name k ++ 61 ∷ []

abbrev pub lines_text : Area → Lines → Text
lines_text a (Claim k c) = line (key_text k) (claim c)
lines_text a (Term k i) = line (key_text k) (render (tree_in a i))
lines_text a (Verdict r) = verdict_lines (answer_in a r)

-- its keys and texts
abbrev pub lines_entries : Area → Lines → List Entry
lines_entries a (Claim k c) = (key_name k, claim c) ∷ []
lines_entries a (Term k i) = (key_name k, render (tree_in a i)) ∷ []
lines_entries a (Verdict r) = verdict_entries (answer_in a r)

-- the term or the bindings of an answer are cells of the area
abbrev pub LinesHeld : Area → Lines → Type 0
LinesHeld a (Claim k c) = Unit {0}
LinesHeld a (Term k i) = (0 < i) × (i < a.free)
LinesHeld a (Verdict r) = VerdictHeld a r.verdict

-- what is decided, whatever the room
abbrev pub reply_of : Area → Result Lines Refusal → Reply Text
reply_of a (Err x) = refused (number_for x)
reply_of a (Ok l) = passed (lines_text a l)

abbrev pub Standing : Area → Result Lines Refusal → Type 0
Standing a (Err x) = Unit {0}
Standing a (Ok l) = LinesHeld a l

-- a decision that names no cell: a refusal, a claim, or a run of `unify` or `match` that ends without a solution
abbrev pub NamesNone : Result Lines Refusal → Type 0
NamesNone (Err x) = Unit {0}
NamesNone (Ok (Claim k c)) = Unit {0}
NamesNone (Ok (Term k i)) = ⊥
NamesNone (Ok (Verdict r)) = Stopped r.verdict

-- the columns of a page can hold the keys and texts
abbrev pub FitsColumns : Area → Result Lines Refusal → Type 0
FitsColumns a (Err x) = Unit {0}
FitsColumns a (Ok l) = all_columned (lines_entries a l) ≡ true

-- d is this reply, what it tells are cells of the area, and the columns of a page can hold it
pub record DecisionIs (o : Reply Text) (a : Area) (d : Result Lines Refusal) : Type 0 where
  pub reply : reply_of a d ≡ o
  pub held : Standing a d
  pub columned : FitsColumns a d
