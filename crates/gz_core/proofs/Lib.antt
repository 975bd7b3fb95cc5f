pub mod Awaited
pub mod Ballots
pub mod Columns
pub mod Counting
pub mod Quorums
pub mod SlotNames
