pub mod Putting
pub mod Standing
pub mod CanMerge
pub mod Absorbing
pub mod Rooting
