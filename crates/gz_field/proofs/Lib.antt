pub mod Additive
pub mod Algebra
pub mod Basis
pub mod Computed
pub mod Entries
pub mod Inverse
pub mod Powers
pub mod Remainder
