pub mod Heading
pub mod Wedge
pub mod Laws
pub mod Bearing
