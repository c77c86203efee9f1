-- The lemmas of the case file.
pub mod Codes
pub mod Ranges
pub mod Tables
pub mod Fine
pub mod FineEdges
pub mod FineTables
pub mod Accepts
