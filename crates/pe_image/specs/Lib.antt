pub mod Bodies
pub mod Headers
pub mod Metadata
pub mod SectionMap
pub mod Sections
