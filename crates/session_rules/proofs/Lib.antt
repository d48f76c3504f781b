pub mod Fitting
pub mod Cancels
pub mod Numbers
