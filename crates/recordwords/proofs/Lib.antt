pub mod WordLaws
pub mod PartLaws
pub mod BackLaws
