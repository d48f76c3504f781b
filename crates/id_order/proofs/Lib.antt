pub mod SortedKeys
pub mod LeastSecond
pub mod Dealing
pub mod Ascending
pub mod Packing
