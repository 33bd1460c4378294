pub mod Objects
pub mod Calls
pub mod Laying
pub mod Laws
