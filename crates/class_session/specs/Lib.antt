pub mod ClassPlans
