pub mod Growing
pub mod Judging
pub mod Notes
pub mod Table
