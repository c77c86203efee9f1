-- The definitions that the contracts of an account cite.
pub mod Account
pub mod Report
