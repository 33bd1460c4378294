pub mod Bounds
pub mod Closures
