-- What the functions of this crate are held to: Lengths. The contract of ligcols_convert is that of columns/specs/Converting.
pub mod Lengths
