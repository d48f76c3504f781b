pub mod SourceSurvey
pub mod NumbersByChunk
pub mod RowChunks
pub mod ChunkColumns
