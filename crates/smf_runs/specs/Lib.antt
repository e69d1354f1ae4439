pub mod Closed
pub mod Unrefreshed
pub mod FaultTexts
pub mod Copies
pub mod Reasons
pub mod Cfgs
pub mod Runs
pub mod Sims
