pub mod AnswerLaws
pub mod Demand1Laws
pub mod DemandLaws
pub mod AssuranceLaws
