pub mod Meaning
pub mod Levels
pub mod Pages
pub mod Cells
