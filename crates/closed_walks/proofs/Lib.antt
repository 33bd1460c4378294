pub mod Keeps
pub mod Lists
pub mod Orders
pub mod Parts
pub mod Reach
pub mod States
pub mod Whole
pub mod Work
