pub mod Natural
pub mod NaturalAccess
pub mod Residues
pub mod Stored
