pub mod Stars
pub mod ExprLayers
pub mod CondLayers
pub mod LoneLaws
pub mod Queries
