-- The variables of the pairs as a list of an area's cells.
use Prim.Native.Nat.{ℕ, ◌+◌, ◌*◌, ◌-◌, ◌≤◌}
use mathlib.Core.Path.{sym, ap, ◌∙◌}
use mathlib.Core.List.{map}
use lib.ListN.{length}
use lib.Seq.{slice}
use native.Mathlib.Omega.{arith}
use Rattle.rules.specs.Tree.{Trees, sizes, variable_names_in}
use Rattle.text.specs.Places.{text_at}
use Rattle.tree.specs.declared.area.Area.{Area}
use Rattle.tree.specs.Areas.{trees_in}
use Rattle.elimination.specs.Stack.{Whole}
use Rattle.elimination.specs.Areas.{pairs_in}
use Rattle.variables.specs.Ordered.{ordered_once}
use Rattle.variables.proofs.Gathered.{gathered_variables, gathered_grows, gathered_names, gathered_used}
use Rattle.variables.specs.Areas.{GathersIn, ListsVariablesIn}
use Rattle.variables.specs.declared.gathering.Places.{Places}
use Rattle.variables.proofs.Ordering.{variables_ordered}
use Rattle.variables.proofs.Listed.{names_count}
use Rattle.cover.specs.Areas.{NamesIn}

pub names_made : {a d b : Area} {stack i : ℕ} {p : Places} (o : GathersIn a d stack p) → sizes (trees_in a stack) ≤ length a.sheet.now → 4 * (a.free + length a.sheet.now) + 2 * length a.sheet.now ≤ length a.work.now → Whole (trees_in a stack)
    → ListsVariablesIn d b (p.to - p.from) (map (text_at d.sheet.now) (slice p.from p.to d.work.now)) i → NamesIn a b stack i
names_made {a} {d} {b} {stack} {i} o few room whole h =
    let v = gathered_variables o few room h in
    record {
      grows = gathered_grows o few room h;
      names = record { inside = h.lists.inside; variables = v };
      are = gathered_names o few room h ∙ ap (λ (ts : Trees). ordered_once (variable_names_in ts)) (sym whole) ∙ sym (variables_ordered (pairs_in a stack));
      used = omega (arith, gathered_used o few room h, names_count b.sheet.now b.work.now i v);
    }
