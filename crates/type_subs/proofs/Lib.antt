mod AnyLoops
mod Listed
mod LevelTests
mod NodeTests
pub mod NoteLemmas
mod PairLoops
mod PutLemmas
mod Runs
mod SubLemmas
