pub mod Ends
pub mod Notes
pub mod Stands
pub mod Endings
pub mod Rooms
pub mod Founds
