pub mod Choices
pub mod Entries
pub mod LeastNames
pub mod LeastSites
pub mod Tops
