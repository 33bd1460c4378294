pub mod Invariant
pub mod Search
pub mod Walks
