pub mod Ends
pub mod Attached
pub mod Ended
pub mod States
pub mod EndTexts
