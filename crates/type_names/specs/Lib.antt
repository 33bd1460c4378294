pub mod Assemblies
pub mod Numbering
pub mod Resolution
pub mod TypeFinders
pub mod TypeKeys
pub mod TypeTexts
pub mod WorldNames
