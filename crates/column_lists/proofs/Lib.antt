pub mod Kept
pub mod Presence
pub mod Filling
pub mod Gathering
pub mod Rowed
pub mod Appended
