-- The definitions of what a verdict means.
pub mod Member
pub mod System
pub mod Network
pub mod Graph
pub mod Quotient
pub mod Check
pub mod Cut
pub mod Theorems
pub mod Value
pub mod Known
pub mod Fold
pub mod Trim
