pub mod ChildBlockSteps
pub mod ChildInverting
pub mod ChildRefusing
