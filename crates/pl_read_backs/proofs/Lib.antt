-- That what is written is read back, and what is read is written.
--   Values  characters and reals
--   Lines   each line is read as its property
--   Kept    the indentation is good
--   Texts   several lines are read as their properties
--   Labels  labels are read into the table
--   Steps   an instruction is read as its numbers
--   Programs  a program is read as its numbers
--   Theorems  proves that what is written is read back
--   Entries  entries that are read make their table again
--   Shared  a program shared, and packed again
--   Again   proves that what is read is written
pub mod Values
pub mod Lines
pub mod Kept
pub mod Texts
pub mod Labels
pub mod Steps
pub mod Programs
pub mod Theorems
pub mod Entries
pub mod Shared
pub mod Again
