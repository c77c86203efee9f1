-- The definitions that the contracts of the shared records cite.
pub mod Codes
pub mod Words
