pub mod Answers
pub mod Words
pub mod WordForms
pub mod Meanings
pub mod Steps
pub mod Outcomes
pub mod Laws
