pub mod Counts
mod Joins
pub mod Shown
