pub mod InstructionSet
pub mod Reading
pub mod Decoding
pub mod Spelling
