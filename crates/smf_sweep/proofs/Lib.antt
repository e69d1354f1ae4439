pub mod Given
pub mod Older
