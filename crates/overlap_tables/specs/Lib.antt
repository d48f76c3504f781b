pub mod Overlaps
pub mod Windows
pub mod Heights
pub mod Laws
