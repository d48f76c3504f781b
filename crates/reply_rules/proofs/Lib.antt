pub mod Bytes
pub mod Whole
pub mod Finding
pub mod Named
pub mod Headings
pub mod Scripts
pub mod Transcripts
