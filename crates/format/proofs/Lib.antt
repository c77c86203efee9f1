-- The lemmas of the format.
pub mod Reading
pub mod Filled
pub mod Listed
pub mod Offsets
pub mod Tables
