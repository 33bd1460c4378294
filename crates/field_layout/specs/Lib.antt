pub mod CoreNumbers
pub mod Ends
pub mod Fields
pub mod Laws
pub mod Layouts
pub mod Notes
pub mod Shapes
