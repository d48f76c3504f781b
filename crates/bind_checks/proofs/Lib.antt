pub mod ChordLaws
pub mod QualifiedLaws
pub mod Unknowns
pub mod CondParts
pub mod Narrow
