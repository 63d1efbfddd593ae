pub mod ItemTokens
pub mod ItemTerms
pub mod Flattening
pub mod ItemWords
pub mod WriterSteps
pub mod WriterTurns
pub mod WriterStates
