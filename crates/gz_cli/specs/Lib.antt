pub mod Causes
pub mod Checks
pub mod Codes
pub mod Inputs
pub mod Runs
pub mod Shows
pub mod Statuses
pub mod Worlds
