pub mod Numbers
pub mod Branches
pub mod Locals
pub mod Plain
pub mod Access
pub mod Fields
pub mod Elements
pub mod Coding
