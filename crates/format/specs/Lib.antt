-- The definitions that the contracts of the format cite.
pub mod Bytes
pub mod Layout
pub mod Case
pub mod Table
