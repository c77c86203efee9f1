-- The lemmas of the shared records.
pub mod Codes
