pub mod RequestViews
pub mod SessionParts
