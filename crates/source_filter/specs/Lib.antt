pub mod Tests
pub mod Columns
pub mod Masks
pub mod Candidates
pub mod Objects
