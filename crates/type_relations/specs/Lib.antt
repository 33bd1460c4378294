pub mod Relations
pub mod Heads
