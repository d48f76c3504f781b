pub mod Answers
pub mod Calls
pub mod Preds
pub mod Stops
