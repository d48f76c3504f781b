pub mod Spans
pub mod Bare
