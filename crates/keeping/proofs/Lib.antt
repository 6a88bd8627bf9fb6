pub mod PartLaws
pub mod EntryLaws
pub mod CallLaws
pub mod AssuranceLaws
pub mod ImageLaws
pub mod OperationLaws
