pub mod Roots
pub mod Places
pub mod Growth
pub mod Powers
