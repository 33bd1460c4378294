pub mod Answers
pub mod Command
pub mod Ends
pub mod Fetched
pub mod Lines
pub mod Names
