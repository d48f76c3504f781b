pub mod PastLemmas
pub mod ViewLemmas
pub mod Opening
pub mod Entering
pub mod Publishing
pub mod Splitting
pub mod Joining
pub mod Ends
