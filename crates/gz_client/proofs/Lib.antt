mod Apart
mod Beginning
mod Counted
pub mod Exactly
mod Extending
mod Fetching
mod Following
mod FragmentTold
mod Fragments
pub mod Holding
mod Kept
mod Learning
pub mod Listed
pub mod Live
pub mod LiveRequests
mod Puts
mod RowTold
pub mod Rules
mod Sends
pub mod Sent
mod Standing
mod StoringFirst
mod StoringLast
mod Telling
