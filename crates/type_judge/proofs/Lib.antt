pub mod NotesGrow
pub mod Firsts
mod Order
