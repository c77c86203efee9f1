-- The definitions that the contracts of processes cite.
pub mod Lts
pub mod Pool
pub mod SingleVariant
