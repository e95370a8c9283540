pub mod SameSelf
pub mod SameParts
pub mod NumberAfter
pub mod DiffersSelf
pub mod ByParts
pub mod LandmarkFacts
pub mod ByLandmarks
