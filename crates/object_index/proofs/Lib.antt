pub mod Ascending
pub mod Sparse
