pub mod ClassLines
pub mod OneOfTwo
pub mod PairLemmas
pub mod TwoTakes
