pub mod Bytes
pub mod Counts
pub mod Fields
pub mod Grammar
pub mod Schedule
pub mod Verbs
