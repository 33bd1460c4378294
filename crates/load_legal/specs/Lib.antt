pub mod Legal
pub mod Names
