pub mod States
pub mod Rows
pub mod Fields
pub mod Texts
pub mod OwnName
pub mod Patched
