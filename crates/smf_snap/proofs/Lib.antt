pub mod ByName
pub mod Order
pub mod Bodies
