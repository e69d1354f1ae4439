pub mod Requests
pub mod ListOptions
pub mod Examples
pub mod Instances
pub mod Output
pub mod Relations
pub mod Messages
pub mod Words
