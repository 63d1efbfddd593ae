use mathlib.Core.Path.{sym, ◌∙◌}
use Rattle.tree.proofs.Keeping.{pushed_inside}
use Rattle.fresh.proofs.TermLaws.{one_readable, one_small, no_base, places_within, places_listable, places_room, term_names}
use Rattle.fresh.proofs.naming.name_variables.Goals as goal

pub variables_of-places-requires-clause-list : goal.variables_of-places-requires-clause-list
variables_of-places-requires-clause-list c = (pushed_inside c.share-list.ensures, one_readable c.args.term c.share-list.ensures c.requires.term.1)

pub variables_of-places-requires-clause-few : goal.variables_of-places-requires-clause-few
variables_of-places-requires-clause-few c = one_small c.args.term c.share-list.ensures c.requires.few.0

pub base_of-requires : goal.base_of-requires
base_of-requires c = places_within c.args.term c.share-list.ensures c.variables_of-places.ensures c.requires.few.0 c.requires.room.0

pub returns-in_err-base : goal.returns-in_err-base
returns-in_err-base c = rw c.from_residual.ensures (no_base c.args.term c.share-list.ensures c.variables_of-places.ensures (sym c.in_err-base.was ∙ c.base_of.ensures))

pub list_variables-names-requires-clause-places : goal.list_variables-names-requires-clause-places
list_variables-names-requires-clause-places c = places_listable c.args.term c.share-list.ensures c.variables_of-places.ensures c.requires.few.0 c.requires.room.0

pub list_variables-names-requires-clause-room : goal.list_variables-names-requires-clause-room
list_variables-names-requires-clause-room c = places_room c.args.term c.share-list.ensures c.variables_of-places.ensures c.requires.few.0 c.requires.room.0 c.requires.room.1

pub returns : goal.returns
returns c =
    term_names c.args.term c.share-list.ensures c.variables_of-places.ensures c.requires.few.0 c.requires.room.0 c.in_ok-base.base (sym c.in_ok-base.was ∙ c.base_of.ensures) c.list_variables-names.ensures
