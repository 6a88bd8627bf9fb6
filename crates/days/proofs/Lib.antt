pub mod ChainLaws
pub mod RuleLaws
pub mod MonthLaws
pub mod WindowLaws
pub mod SheetLaws
pub mod WordsLaws
