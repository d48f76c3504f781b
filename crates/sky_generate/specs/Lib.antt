pub mod Draws
pub mod Places
pub mod SoFar
