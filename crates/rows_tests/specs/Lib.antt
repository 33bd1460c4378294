pub mod Classes
pub mod Circle
