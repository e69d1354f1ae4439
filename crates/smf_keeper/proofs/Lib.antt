pub mod Goes
pub mod Made
pub mod Standing
pub mod Starting
pub mod Ending
pub mod Noting
pub mod Finding
