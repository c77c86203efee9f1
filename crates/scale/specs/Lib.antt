-- The definitions that the contracts of scales cite.
pub mod Algebra
pub mod YesNo
pub mod Variants
pub mod Laws
pub mod Bitwise
