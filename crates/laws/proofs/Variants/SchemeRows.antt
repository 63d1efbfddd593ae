-- The schemes of two terms, by computation.
use mathlib.Core.Path.{◌≡◌, refl}
use mathlib.Core.List.{map}
use Rattle.rules.specs.Writing.{render}
use Rattle.rules.specs.Variants.{fresh_name, schemes_from}
use Rattle.rules.specs.SchemeTable.{literal, literals, of_name, of_first, three_rules, three_rule_schemes, first_systems, schemes_of, systems_of}

pub scheme_rows : schemes_of 2 three_rules ≡ map literals three_rule_schemes
unfolding schemes_from fresh_name render
scheme_rows = refl

pub system_rows : systems_of 1 (of_first (of_name "x0:Msg")) ≡ map (map literal) first_systems
unfolding schemes_from fresh_name render
system_rows = refl
