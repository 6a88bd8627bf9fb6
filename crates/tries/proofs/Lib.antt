pub mod TryLaws
pub mod NurseLaws
