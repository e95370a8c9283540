pub mod Latest
pub mod Refusing
pub mod ClassFacts
pub mod RowSteps
pub mod RowFacts
pub mod ChangeReportFacts
