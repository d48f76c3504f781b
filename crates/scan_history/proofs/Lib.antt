pub mod Rising
pub mod ReadLines
pub mod Printing
pub mod PartTexts
pub mod NumberTexts
pub mod RoundTrip
pub mod Checking
pub mod Counting
