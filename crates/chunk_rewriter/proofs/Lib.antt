pub mod Layers
pub mod Loops
