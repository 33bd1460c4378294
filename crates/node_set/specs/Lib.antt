pub mod Nodes
pub mod Keys
pub mod Probing
