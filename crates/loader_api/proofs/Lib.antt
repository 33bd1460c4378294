pub mod Passes
mod LastEvents
