pub mod PhaseLaws
pub mod QuestionLaws
pub mod OpeningLaws
pub mod FitLaws
pub mod ExitLaws
