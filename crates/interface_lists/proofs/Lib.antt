pub mod Follows
pub mod Ids
pub mod Heads
pub mod Chains
