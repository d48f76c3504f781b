pub mod Granules
pub mod Indexes
