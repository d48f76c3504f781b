pub mod Names
pub mod InParts
