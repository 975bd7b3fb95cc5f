pub mod Files
pub mod Many
pub mod Memory
pub mod MemoryFiles
pub mod Steps
pub mod Told
