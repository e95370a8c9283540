pub mod EditFacts
pub mod FirstFacts
pub mod ReportFacts
pub mod SessionFacts
pub mod CommandFacts
pub mod NumberFacts
pub mod OneAnswer
pub mod BreakFacts
