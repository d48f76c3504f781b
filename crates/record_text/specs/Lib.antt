pub mod PlainText
pub mod Standing
pub mod Signs
pub mod Faults
pub mod Judged
