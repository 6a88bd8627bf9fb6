pub mod MarginLaws
pub mod SideLaws
pub mod CostLaws
