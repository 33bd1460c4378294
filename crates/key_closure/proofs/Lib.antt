mod ListSteps
mod NodeSteps
mod Turns
pub mod NodeTurns
