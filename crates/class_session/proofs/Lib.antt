pub mod ClassEnds
pub mod ClassHomes
pub mod FirstPairs
