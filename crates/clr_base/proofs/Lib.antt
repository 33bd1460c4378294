pub mod Content
pub mod Checks
pub mod Numbers
pub mod ListFacts
pub mod Ranges
