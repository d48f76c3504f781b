pub mod DemoQueries
pub mod DemoReads
mod Fluxes
mod Overlap
mod Queries
