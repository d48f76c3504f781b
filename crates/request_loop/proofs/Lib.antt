pub mod Giving
pub mod Cutting
pub mod Drafting
pub mod Serving
pub mod Stepping
pub mod Staying
