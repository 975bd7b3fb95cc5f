mod Bounding
mod Breaking
mod FirstEntries
mod Grouping
mod Legalities
mod Repeating
pub mod Searching
mod Serials
