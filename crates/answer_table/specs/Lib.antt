pub mod TableValues
pub mod Tables
