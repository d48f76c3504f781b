pub mod Sources
pub mod SourceNames
pub mod SourceRecords
pub mod SourcePlaces
pub mod SourceLaws
pub mod SourceExamples
