-- The definitions that the contracts of a session's lines cite.
pub mod Listing
