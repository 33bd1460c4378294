pub mod Laws
pub mod Layouts
pub mod Places
pub mod Shapes
pub mod Standing
