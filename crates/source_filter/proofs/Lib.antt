pub mod Testing
pub mod Reading
pub mod Keeping
pub mod Narrowing
pub mod Objects
