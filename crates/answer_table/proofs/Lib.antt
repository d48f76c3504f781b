pub mod OneMore
pub mod Tabling
