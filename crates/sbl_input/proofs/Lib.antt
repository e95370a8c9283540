pub mod LoadFacts
pub mod WordListFacts
pub mod InputFacts
pub mod OneLoading
pub mod VocabularyFacts
pub mod FileFacts
