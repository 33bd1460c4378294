pub mod MoreNames
pub mod Growing
pub mod SlotNaming
pub mod FieldRuns
pub mod Numbering
pub mod Assembling
pub mod NotesGrowing
pub mod Records
