pub mod Removals
pub mod CodePush
pub mod CodeGiven
