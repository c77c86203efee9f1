-- Lemmas on the rule book.
pub mod Turns
