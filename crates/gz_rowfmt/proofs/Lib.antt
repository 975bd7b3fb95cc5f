pub mod Columns
pub mod Loops
pub mod Records
pub mod Values
