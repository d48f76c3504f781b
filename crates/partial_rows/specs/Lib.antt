pub mod Cells
pub mod Rows
pub mod CompactRows
pub mod Pairs
pub mod PackedKeys
pub mod Views
pub mod Multisets
