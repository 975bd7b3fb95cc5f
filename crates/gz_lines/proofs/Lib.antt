pub mod Bounds
pub mod CountLemmas
pub mod CutLemmas
pub mod Generating
pub mod Reading
