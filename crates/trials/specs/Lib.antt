pub mod Trials
pub mod CodeTrials
