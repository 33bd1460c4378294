pub mod Expands
pub mod Formals
pub mod Links
