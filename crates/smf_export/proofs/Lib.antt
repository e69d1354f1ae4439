pub mod Alike
pub mod Chosen
pub mod Looked
pub mod Tried
