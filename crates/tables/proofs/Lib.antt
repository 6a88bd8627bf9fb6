pub mod TrialLaws
pub mod DayLaws
pub mod SumLaws
mod RangeSums
