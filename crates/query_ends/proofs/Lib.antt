pub mod Zips
pub mod Lines
pub mod Pairs
pub mod Starting
pub mod EndsOfPlans
pub mod ScriptEnds
pub mod Writing
pub mod TextsOfEnds
