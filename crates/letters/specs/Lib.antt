pub mod Letters
pub mod CodeLetters
pub mod CodeRoster
