pub mod Survey
pub mod Places
pub mod Lists
pub mod Merged
pub mod Laws
pub mod Examples
