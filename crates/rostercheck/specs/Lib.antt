pub mod Check
pub mod CodeBounds
pub mod CodeCheck
