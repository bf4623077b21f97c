-- Definitions of crate file_reading; the contract of reading a file is in crate files.
--   Writing   the lists of a font, each written to the front of a list
pub mod Writing
