-- More sheets, by computation.
use mathlib.Core.Path.{◌≡◌, refl}
use mathlib.Core.Bool.{true}
use Rattle.rules.specs.Variants.{fresh_name}
use Rattle.rules.specs.Call.{call}
use Rattle.rules.specs.Table.{right}
use Rattle.rules.specs.RefusalTable.{least_words}
use Rattle.rules.specs.MoreRows.{long_sums, rule_members, two_rules, unranked, fresh_and_node, indices, tone_sums, two_bindings, ground_sums}

pub long_sum_rows : right call long_sums ≡ true
unfolding right call
long_sum_rows = refl

pub rule_rows : right call rule_members ≡ true
unfolding right call fresh_name
rule_rows = refl

pub two_rule_rows : right call two_rules ≡ true
unfolding right call fresh_name
two_rule_rows = refl

pub unranked_rows : right call unranked ≡ true
unfolding right call
unranked_rows = refl

pub least_word_rows : right call least_words ≡ true
unfolding right call
least_word_rows = refl

pub fresh_node_rows : right call fresh_and_node ≡ true
unfolding right call
fresh_node_rows = refl

pub index_rows : right call indices ≡ true
unfolding right call
index_rows = refl

pub tone_sum_rows : right call tone_sums ≡ true
unfolding right call
tone_sum_rows = refl

pub two_binding_rows : right call two_bindings ≡ true
unfolding right call
two_binding_rows = refl

pub ground_sum_rows : right call ground_sums ≡ true
unfolding right call
ground_sum_rows = refl
