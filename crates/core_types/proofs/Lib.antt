pub mod CoreFacts
pub mod CoreNames
pub mod NameLemmas
