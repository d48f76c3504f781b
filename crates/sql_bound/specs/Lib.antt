pub mod Radii
pub mod Trees
