pub mod SourceFirsts
pub mod SourceOrders
