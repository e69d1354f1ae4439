pub mod Schema
pub mod Rows
pub mod Calls
pub mod Statements
pub mod Scans
pub mod Layout
