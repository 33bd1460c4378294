pub mod CoreLibrary
pub mod CoreTable
pub mod Names
