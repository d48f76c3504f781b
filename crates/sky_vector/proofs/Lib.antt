pub mod Signed
pub mod Plane
pub mod Coordinates
