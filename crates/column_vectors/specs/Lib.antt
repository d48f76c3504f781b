pub mod Totals
pub mod Masks
pub mod Lanes
pub mod Flags
pub mod Aggregates
pub mod PickedColumns
pub mod Sources
