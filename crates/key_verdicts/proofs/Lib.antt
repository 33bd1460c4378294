mod Firsts
mod Verdicts
