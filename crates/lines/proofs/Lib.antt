-- The lemmas of lines.
mod Gathered
mod Sixteen
