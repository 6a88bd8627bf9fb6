pub mod Answers
pub mod BothWays
pub mod CodeChecked
pub mod Body
