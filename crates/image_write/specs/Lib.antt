pub mod Drafts
pub mod Fitting
pub mod Image
pub mod Layouts
pub mod Lengths
pub mod Pieces
pub mod ReadBack
