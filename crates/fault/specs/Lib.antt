-- The definitions that the contracts of refusals cite.
pub mod Fault
pub mod Line
pub mod Each
pub mod First
