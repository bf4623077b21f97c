-- Zeros: an array of zeros is as long as it says.
pub mod Zeros
