pub mod EntryLemmas
pub mod InterfaceLemmas
pub mod TheOneLemmas
pub mod WordLemmas
pub mod FrontLemmas
pub mod RecordLemmas
pub mod PlaceLemmas
pub mod NamingLemmas
