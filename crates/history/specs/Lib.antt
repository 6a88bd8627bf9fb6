pub mod Slot
pub mod Phase
pub mod History
pub mod Record
pub mod Session
pub mod Claim
pub mod Questions
