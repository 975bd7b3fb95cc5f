pub mod Bytes
pub mod PutFields
pub mod Steps
pub mod Widths
