-- Laws of the font that a file means, and two theorems:
--   Ascending   lists of entries by ascending character: of a file, and unpacked
--   Programs    what is read of a word is an instruction
--   Theorems    `meant-lead` and `meant-taken`
pub mod Ascending
pub mod Programs
pub mod Theorems
