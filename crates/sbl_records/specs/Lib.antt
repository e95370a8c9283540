-- definitions that the contracts of public functions use
pub mod Blank
pub mod RowRecords
pub mod ItemRecords
pub mod ChangeRecords
pub mod FamilyRecords
pub mod FigureRecords
