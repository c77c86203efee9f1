-- The definitions that the contracts of the checks cite.
pub mod TableFault
pub mod Refusal
pub mod WellFormed
