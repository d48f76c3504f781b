pub mod Draws
pub mod DemoRows
pub mod DemoTexts
pub mod Examples
pub mod Laws
