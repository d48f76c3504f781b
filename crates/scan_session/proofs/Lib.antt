pub mod Others
pub mod Quiet
pub mod Keeping
pub mod Calling
pub mod Answering
pub mod Placing
pub mod Listing
pub mod Looping
pub mod Closing
pub mod Manning
pub mod Finishing
pub mod Beginning
pub mod Numbering
pub mod Wanting
pub mod Showing
pub mod Fitting
pub mod Ending
mod Spending
