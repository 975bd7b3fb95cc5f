pub mod Outboxes
pub mod Plays
