-- The definitions that the contracts of opening cite.
pub mod Measured
pub mod Ruled
