-- Variants: the count of schemes, and the schemes one at a time; what the answers of sound, cover and complete mean, and complete
-- in one pass; the variables and names that schemes and covers use, how large the equations of a scheme are, and the pairs that are
-- matched.
pub mod SchemeCount
pub mod SchemeAt
pub mod SchemeRows
pub mod Readable
pub mod Sound
pub mod Covered
pub mod Waiting
pub mod Targets
pub mod Complete
pub mod OnePass
pub mod Sites
pub mod FreshNames
pub mod SystemRoom
pub mod VariableNames
pub mod Variables
pub mod VariableOrder
pub mod CoverRoom
pub mod CompleteRoom
