pub mod Totals
pub mod Reading
pub mod Flagged
pub mod Masked
pub mod Aggregated
pub mod PickedColumns
pub mod SingleColumns
