-- The definitions that the contracts of lines cite.
pub mod Gathered
pub mod Hex
pub mod Lines
