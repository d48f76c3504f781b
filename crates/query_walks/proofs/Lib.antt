pub mod Loops
pub mod AreaParts
pub mod Gathered
pub mod TestWalks
pub mod Walked
pub mod Firsts
pub mod CondParts
pub mod Anys
