pub mod MeaningParts
pub mod ChoiceParts
pub mod ControlParts
pub mod EventParts
pub mod MoveParts
pub mod RegionRuns
