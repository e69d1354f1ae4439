pub mod Words
pub mod Tokens
pub mod Lines
pub mod Listed
pub mod Judged
