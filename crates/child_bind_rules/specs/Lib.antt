pub mod PairColumns
pub mod JoinCondition
pub mod ChildChecks
pub mod ChildBinding
pub mod ChildLaws
pub mod ChildExamples
pub mod BoundPairs
