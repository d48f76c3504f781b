pub mod Ids
pub mod Names
pub mod Keys
pub mod Rowed
pub mod Appended
