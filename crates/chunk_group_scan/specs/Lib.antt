pub mod Grouped
pub mod States
pub mod Runs
pub mod Words
pub mod Dealt
pub mod Prefetched
pub mod Ungrouped
