pub mod ChildSurvey
pub mod ChildQueryPlans
pub mod ChildPlans
pub mod ChildRefusals
pub mod ChildAttached
pub mod ChildEnded
pub mod ChildEnds
pub mod ChildDriven
