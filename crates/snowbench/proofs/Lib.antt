pub mod ListFacts
pub mod LineFacts
pub mod ReasonFacts
pub mod AnswerFacts
