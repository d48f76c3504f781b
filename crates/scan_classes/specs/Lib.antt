pub mod ClassTakes
pub mod Ends
pub mod Homes
pub mod Pairs
pub mod QueryClasses
