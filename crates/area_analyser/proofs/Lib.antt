pub mod Filters
pub mod Held
pub mod Chosen
pub mod Marking
pub mod Single
