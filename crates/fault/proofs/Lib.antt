-- Lemmas on refusals.
pub mod First
