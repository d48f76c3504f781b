pub mod NarrowLines
pub mod NarrowScript
pub mod NarrowTranscript
pub mod NarrowRun
pub mod Each
pub mod Counted
pub mod Examples
pub mod Indexed
