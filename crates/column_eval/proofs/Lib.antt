pub mod Laned
pub mod Sums
pub mod Judging
pub mod SingleColumns
pub mod Mirrored
