pub mod Definitions
pub mod Levels
pub mod Shapes
pub mod Told
pub mod Faults
