pub mod Counted
pub mod Histories
pub mod Operations
pub mod Rule
pub mod Seats
pub mod Steps
