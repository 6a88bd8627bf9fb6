pub mod Nights
pub mod Hers
pub mod Own
pub mod NightRule
pub mod CodeCommon
