pub mod Plans
pub mod Sites
pub mod Regions
pub mod Places
pub mod Reading
