pub mod LetterLaws
pub mod RowLaws
pub mod WriteLaws
