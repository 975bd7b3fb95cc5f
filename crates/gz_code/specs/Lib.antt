pub mod CodeWord
pub mod Decoding
pub mod Encoding
pub mod Interpolation
pub mod Laws
pub mod Polynomial
