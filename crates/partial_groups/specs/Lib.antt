pub mod Groups
pub mod Adding
pub mod Sharing
pub mod Merging
pub mod Lines
pub mod Ungrouped
pub mod Counts
pub mod Pruning
