pub mod TheOne
pub mod Words
pub mod Records
pub mod Room
pub mod Sections
pub mod Naming
pub mod Pairs
