pub mod AnswerWords
pub mod CodeAnswers
