pub mod Words
pub mod CodeWords
pub mod Back
