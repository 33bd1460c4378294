pub mod Plans
pub mod Moving
pub mod Published
