pub mod CondParts
pub mod Lists
pub mod Parts
pub mod CondForms
