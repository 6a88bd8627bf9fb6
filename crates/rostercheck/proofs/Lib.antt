pub mod RowLaws
pub mod CheckLaws
pub mod GivenLaws
pub mod NeedLaws
