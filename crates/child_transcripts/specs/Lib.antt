pub mod ChildQueries
pub mod ChildBlocks
pub mod ChildTranscripts
pub mod ChildLaws
pub mod ChildExamples
