pub mod Bytes
pub mod Groups
pub mod CodeBytes
