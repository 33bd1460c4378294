pub mod Definitions
pub mod MemberIndexes
pub mod MemberTable
pub mod Members
pub mod RowIndexes
pub mod Trees
