-- definitions that public contracts depend on
pub mod Profile
pub mod Reading
pub mod FaultOffsets
pub mod Laws
-- what the functions inside the crate promise each other; no public contract depends on these
pub mod TerminalReading
pub mod Roles
pub mod Steps
pub mod FirstStack
pub mod First
pub mod Starts
pub mod Gives
