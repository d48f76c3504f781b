pub mod ChunkSources
pub mod Wide
pub mod SoundPairs
pub mod Lines
pub mod AddsRows
pub mod Scans
