pub mod Groupings
pub mod Blockage
pub mod Stamps
pub mod Tallies
pub mod Wires
pub mod Relinks
