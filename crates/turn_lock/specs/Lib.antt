pub mod Pasts
pub mod Passes
pub mod Rule
pub mod Seats
pub mod Ends
pub mod Steps
pub mod Views
