-- The laws of bytes that are read.
--   Scanning   the contract of functions that read a number
--   ByteLaws   bytes
pub mod Scanning
pub mod ByteLaws
