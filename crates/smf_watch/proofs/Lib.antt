pub mod Caused
pub mod FaultExits
pub mod Hasty
pub mod Hears
pub mod Late
pub mod Remedied
pub mod Retried
pub mod Termed
