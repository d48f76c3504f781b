pub mod LineItems
pub mod PiecesLeft
