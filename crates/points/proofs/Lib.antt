-- The laws of sizes as bytes.
--   Decimals  the decimals one by one, and what they come to
--   Wholes    whole points, and lists of digits
--   Theorems  proves what specs/Purpose states
pub mod Decimals
pub mod Wholes
pub mod Theorems
