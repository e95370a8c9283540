pub mod Endings
pub mod Instructions
pub mod Performing
pub mod PerformingAt
pub mod Rests
pub mod ProgramViews
pub mod Codes
