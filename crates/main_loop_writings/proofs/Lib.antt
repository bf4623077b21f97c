-- What is proved of TeX's main loop on a font that writing takes.
--   Bytes         the written file is a list of bytes
--   Instructions  TeX takes each of its instructions
--   Starts        where a character's program starts
--   Rules         the rules of a program as it is written
--   Meant         the font that the file means has the rules of the font
--   Theorems      THE theorem
--   Example       a small font, computed
pub mod Bytes
pub mod Instructions
pub mod Starts
pub mod Rules
pub mod Meant
pub mod Theorems
pub mod Example
