pub mod Parts
pub mod DigitFields
pub mod NumberFields
pub mod WordFields
pub mod Methods
pub mod InOrder
pub mod Loops
pub mod Whole
