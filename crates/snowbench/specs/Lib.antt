-- what the contracts of public calls rest on
pub mod StemmedRows
pub mod WholeSession
pub mod WholeCheck
pub mod Program
pub mod Answering
pub mod ScriptFiles
pub mod FileRuns
pub mod WholeFilter
pub mod WholeList
-- what the functions inside the crate promise each other: nothing in these need be believed
pub mod inside
