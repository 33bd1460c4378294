pub mod Choices
pub mod Found
pub mod Inherited
pub mod Known
pub mod Maps
pub mod Publics
pub mod Rows
pub mod Verdicts
