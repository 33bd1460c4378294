pub mod ChainLemmas
pub mod FoundLemmas
pub mod InheritedLemmas
pub mod KnownLemmas
pub mod MapLemmas
pub mod MemberLemmas
pub mod PublicLemmas
pub mod RowLemmas
