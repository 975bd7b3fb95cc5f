mod Ballots
mod Forward
pub mod Making
mod Placing
pub mod Rising
pub mod Seen
