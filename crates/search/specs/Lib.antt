pub mod Stored
pub mod CodeSteps
pub mod CodeSeek
pub mod CodePlan
pub mod CodeChoice
pub mod Sound
