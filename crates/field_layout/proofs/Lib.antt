pub mod Chains
pub mod EndNotes
pub mod Levels
pub mod Runs
pub mod Shaped
pub mod TypeLaws
pub mod Walks
