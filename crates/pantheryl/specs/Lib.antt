pub mod Answers
pub mod CodeAfter
pub mod Demand1
pub mod Demand3
pub mod Assurance
