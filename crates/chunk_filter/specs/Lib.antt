pub mod Values
pub mod Asking
pub mod Selection
pub mod Ids
