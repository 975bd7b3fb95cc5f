pub mod Combination
pub mod Lanes
pub mod Quads
