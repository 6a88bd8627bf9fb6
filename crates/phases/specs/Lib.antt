pub mod Phases
pub mod CodeQuestions
