pub mod Parts
pub mod Trees
pub mod Negation
pub mod Within
pub mod Cells
pub mod Ranges
pub mod ColumnTests
