pub mod Order
pub mod Matches
pub mod Among
pub mod Named
pub mod Rows
