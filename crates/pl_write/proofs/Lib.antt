-- The laws of writing a font as a property list.
--   Tables   the labels of an instruction, and the next instruction that has one
--   Program  an instruction as its properties, and all of them
--   Whole    the whole text, and the list that comes back
pub mod Tables
pub mod Program
pub mod Whole
