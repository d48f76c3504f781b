pub mod First
pub mod Existence
pub mod Uniqueness
pub mod Catalogues
