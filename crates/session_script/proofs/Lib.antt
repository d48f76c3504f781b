pub mod NineDigits
pub mod Spans
pub mod LinePlaces
pub mod ReadSoFar
pub mod Numbered
pub mod Standing
