pub mod CodeGathering
pub mod CodeWalk
