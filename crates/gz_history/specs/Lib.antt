pub mod Answers
pub mod Broken
pub mod Index
pub mod Legal
pub mod Log
pub mod Serial
