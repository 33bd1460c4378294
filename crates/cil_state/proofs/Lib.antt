pub mod Piles
pub mod Natural
pub mod Renamed
pub mod Agreeing
pub mod Lifted
