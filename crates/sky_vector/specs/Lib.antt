pub mod Points
pub mod Plane
pub mod Numbers
pub mod Pos
pub mod Laws
pub mod Examples
pub mod Roots
