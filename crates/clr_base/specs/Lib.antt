pub mod Causes
pub mod Checks
pub mod Content
pub mod Core
pub mod Files
pub mod LittleEndian
pub mod Pieces
