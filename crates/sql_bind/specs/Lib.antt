pub mod Layers
pub mod LoneParts
pub mod Scopes
