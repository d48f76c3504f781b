pub mod Order
pub mod Faults
pub mod Accepted
pub mod Catalogues
