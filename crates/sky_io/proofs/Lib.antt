pub mod Cuts
pub mod Fetches
pub mod FileTexts
pub mod Holding
pub mod Sends
pub mod Writes
