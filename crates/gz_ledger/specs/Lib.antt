pub mod Acceptors
pub mod Agreements
pub mod Guards
pub mod Histories
pub mod Ledgers
pub mod Runs
pub mod Transitions
