-- Lemmas on writing.
pub mod Filling
pub mod Enough
