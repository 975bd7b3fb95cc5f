pub mod Faults
pub mod Fields
pub mod Names
pub mod Objects
pub mod Places
pub mod Texts
