pub mod Requests
pub mod Laws
pub mod Replies
pub mod Sessions
pub mod Drafts
pub mod Readings
pub mod Steps
