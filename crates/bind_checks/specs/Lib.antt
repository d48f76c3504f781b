pub mod Faults
pub mod LoneChord
pub mod Qualified
pub mod Parts
pub mod Unknowns
pub mod Narrow
