-- Lemmas on the check.
pub mod Reading
