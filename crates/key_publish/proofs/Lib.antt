pub mod Results
pub mod Moving
pub mod Parts
pub mod Entries
pub mod Walks
pub mod Stages
