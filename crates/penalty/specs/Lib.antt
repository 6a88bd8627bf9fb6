pub mod Penalty
pub mod Weights
pub mod CodeColumns
pub mod Held
pub mod CodeCounts
