pub mod Formulas
pub mod Layers
pub mod Sizes
pub mod Steps
pub mod Terms
pub mod KeyTerms
pub mod SoFar
