-- Solving: substitutions, ground trees and budgets; the steps, the run and the composition of unify; the steps of match; fuel, the pairs
-- taken, and the rules of inference.
pub mod Substituting
pub mod Ground
pub mod Budget
pub mod Binding
pub mod Decomposing
pub mod Cancelling
pub mod Stepping
pub mod Running
pub mod Composing
pub mod Moving
pub mod Matching
pub mod Fuel
pub mod Rules
pub mod OnlyRules
pub mod Taken
pub mod Keeping
pub mod Names
pub mod Weights
pub mod MatchFuel
pub mod UnifyFuel
pub mod MatchRules
pub mod MatchKeeping
pub mod Derived
