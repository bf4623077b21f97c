-- Definitions of crate table_numbers: Parts (a part of a test of captions that has a function of its own).
pub mod Parts
