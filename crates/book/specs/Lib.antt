-- The definitions that the contracts of the rule book cite.
pub mod Parts
pub mod Standing
pub mod Cases
