pub mod Listing
pub mod Leading
pub mod RowChunks
pub mod ChunkColumns
