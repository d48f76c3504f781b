pub mod FilledChunks
pub mod RowsTaken
