pub mod Digits
pub mod Words
pub mod Lines
pub mod Grammar
