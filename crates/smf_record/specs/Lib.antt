pub mod Answers
pub mod Words
pub mod Digits
pub mod Texts
pub mod Reading
pub mod Replays
pub mod Lines
