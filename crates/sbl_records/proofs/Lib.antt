pub mod WriterFacts
pub mod RecordFacts
