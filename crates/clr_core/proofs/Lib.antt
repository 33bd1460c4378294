pub mod Checking
pub mod Endings
pub mod Fetching
pub mod FileWords
pub mod Zipped
