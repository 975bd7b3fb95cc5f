pub mod Choices
pub mod Evidences
pub mod Looks
