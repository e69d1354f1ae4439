pub mod Consistent
pub mod Effects
pub mod Anew
pub mod Additions
pub mod Refusals
pub mod SingleChanges
