pub mod ChunkItems
pub mod Places
pub mod KeyTexts
pub mod KeyPlaces
