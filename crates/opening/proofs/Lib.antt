-- Lemmas on opening.
pub mod Ruled
pub mod Case
