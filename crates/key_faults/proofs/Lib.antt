mod LevelLemmas
pub mod Telling
