pub mod Storage
pub mod Assurance
pub mod Image
pub mod Operations
