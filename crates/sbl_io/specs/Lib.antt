-- definitions that public contracts depend on
pub mod Devices
pub mod InnerDevice
pub mod Faults
pub mod LinesOf
pub mod HeldInput
pub mod Records
pub mod RecordsWritten
pub mod Reports
-- what the functions inside the crate promise each other; no public contract depends on these
pub mod inside
