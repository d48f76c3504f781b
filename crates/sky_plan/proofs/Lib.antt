pub mod RowOf
pub mod Stripes
pub mod Searches
pub mod Counting
pub mod Greatest
pub mod Least
pub mod Places
pub mod Halves
mod LineCounts
mod Judged
mod SkyLines
