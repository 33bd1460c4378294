pub mod Runs
pub mod LatestEvents
pub mod LoadedHandles
pub mod WiderNames
