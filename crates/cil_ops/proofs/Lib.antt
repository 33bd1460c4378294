pub mod Wrapping
pub mod Causes
