-- Symbols as the code has them. Definitions only.
use Rattle.rules.specs.Sorts as rules
use Rattle.sorts.specs.declared.Symbol.{Symbol}
use Rattle.sorts.specs.declared.Symbol.TheVariants.{Addition, Unit, Frame, Free}

abbrev pub meaning : Symbol → rules.Symbol
meaning Addition = rules.addition
meaning Unit = rules.unit
meaning Frame = rules.frame
meaning Free = rules.free
