pub mod Joining
pub mod Sizes
pub mod Contents
pub mod Merging
pub mod Roots
