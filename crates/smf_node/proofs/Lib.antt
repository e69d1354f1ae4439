mod FaultExits
mod Found
mod EventMarks
mod Owners
mod Places
mod Runs
mod Done
mod Polls
mod QuietRounds
mod UpTo
mod Edits
mod BootLimits
pub mod Lines
pub mod IdleTurns
mod SkippedTurns
mod FitTables
mod Forgetting
