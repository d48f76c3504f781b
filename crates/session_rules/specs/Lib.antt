pub mod Ends
pub mod Laws
pub mod Examples
pub mod Numbers
