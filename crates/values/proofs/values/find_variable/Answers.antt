use Rattle.std.proofs.Common.{rules}
use Prim.Native.Nat.{ℕ}
use Rattle.std.proofs.lemmas.Iterator.Adapters.{serves_from_places}
use Rattle.std.proofs.lemmas.Iterator.Consumers.{YieldsList-from_first}
use Rattle.std.proofs.lemmas.Iterator.Search.{find_from_yields_List}
use Rattle.rules.specs.Bytes.{same}
use Rattle.tree.specs.Areas.{name_in}
use Rattle.tree.specs.Lists.{cells_from, cells_left}
use Rattle.tree.proofs.Chains.{cells_within}
use Rattle.values.proofs.ValueLaws.{found_first}
use Rattle.values.proofs.values.find_variable.Goals as goal

pub find-requires-clause-callable : goal.find-requires-clause-callable
find-requires-clause-callable c =
    let a = c.args.area.now in
    serves_from_places (YieldsList-from_first (λ (x : ℕ). x) cells_left (cells_from a c.args.names) c.list.ensures) (λ x q h. search rules) (λ x k l e. let w = cells_within a c.args.names c.requires.inside x k l e in search rules)

pub returns : goal.returns
returns c =
    let a = c.args.area.now in
    let x = c.args.name.now in
    found_first a c.args.names x c.find.result c.requires
    (find_from_yields_List (λ (i : ℕ). same (name_in a i) x) c.find.new.self _ c.find.result c.find.ensures.ran (YieldsList-from_first (λ (x : ℕ). x) cells_left (cells_from a c.args.names) c.list.ensures) (λ x b q h. search rules))
