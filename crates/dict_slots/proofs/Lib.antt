pub mod Signatures
pub mod Rowing
pub mod Seen
pub mod Searching
pub mod Kept
pub mod Standing
