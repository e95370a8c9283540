mod WhyLines
pub mod IntegerLines
pub mod RowWords
pub mod BenchWords
pub mod BenchUses
pub mod KeptSets
pub mod KeptFacts
