pub mod Places
pub mod Scripts
pub mod Views
pub mod Answers
pub mod Examples
pub mod Laws
