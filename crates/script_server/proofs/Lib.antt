pub mod Answering
pub mod AtPlus
