pub mod Fed
pub mod Jobs
pub mod KeyFed
pub mod KeySame
pub mod Keys
pub mod Kinds
pub mod NodeSame
pub mod Trees
