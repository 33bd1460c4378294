pub mod Calls
pub mod Histories
pub mod Parts
pub mod Sharing
pub mod Verdicts
