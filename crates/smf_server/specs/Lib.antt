pub mod Life
pub mod FaultTexts
pub mod Turns
