pub mod Number
pub mod Binary
pub mod Compare
pub mod Convert
pub mod Faults
