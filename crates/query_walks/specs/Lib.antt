pub mod Walks
pub mod Behind
pub mod Gathering
pub mod Firsts
pub mod Parts
