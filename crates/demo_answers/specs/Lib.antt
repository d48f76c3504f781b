pub mod DemoInput
pub mod Laws
