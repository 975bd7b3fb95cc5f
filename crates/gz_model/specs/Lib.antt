pub mod Casts
pub mod Choosing
pub mod Sites
