pub mod Reading
pub mod Compressed
pub mod Element
pub mod Marks
pub mod Types
pub mod Signatures
pub mod Fault
pub mod Grammar
