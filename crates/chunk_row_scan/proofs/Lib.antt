pub mod Rows
pub mod Computing
pub mod Cutoffs
pub mod Skipping
pub mod Choosing
