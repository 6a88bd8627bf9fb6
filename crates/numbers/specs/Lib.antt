pub mod Range
pub mod Sum
pub mod Digits
pub mod Patterns
