mod Bounds
pub mod Filling
mod Growing
pub mod Keeping
mod LineLemmas
mod Listing
mod PlayLemmas
mod Reaching
