pub mod Questions
pub mod Numbers
pub mod Refusals
