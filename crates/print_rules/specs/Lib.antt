pub mod Spaced
pub mod Laws
pub mod Gaps
pub mod ReadBack
