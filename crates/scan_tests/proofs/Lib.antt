mod LostAlone
pub mod Takes
pub mod TwoBoards
