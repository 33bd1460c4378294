pub mod Circles
pub mod Lists
pub mod Noting
pub mod Paths
pub mod Runs
