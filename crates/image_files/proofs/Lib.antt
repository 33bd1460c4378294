pub mod Counted
pub mod FewEnough
pub mod LocalsCount
pub mod ManyImages
pub mod RunningOut
pub mod SignedLocals
