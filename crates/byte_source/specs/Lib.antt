pub mod Sources
pub mod MemSources
