-- What the functions that write digits are held to.
--   Spelling  two digits as one number, and a number spelled at the end of 12 columns
pub mod Spelling
