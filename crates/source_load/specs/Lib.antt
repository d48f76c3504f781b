pub mod SourceText
pub mod SourceFields
pub mod GatheredSources
