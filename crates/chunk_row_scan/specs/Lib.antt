pub mod Lines
pub mod Computed
pub mod Cutoffs
pub mod Candidates
