pub mod Answers
pub mod Scripts
pub mod Selections
pub mod Words
