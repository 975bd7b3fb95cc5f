pub mod Fragments
pub mod Reading
pub mod Spelling
