pub mod Heaps
pub mod Layout
pub mod Metadata
pub mod Places
pub mod Root
pub mod Schema
pub mod Streams
pub mod TextFaults
