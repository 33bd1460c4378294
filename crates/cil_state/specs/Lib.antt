pub mod Meets
pub mod Operands
pub mod Forms
pub mod State
pub mod Limits
pub mod Maps
