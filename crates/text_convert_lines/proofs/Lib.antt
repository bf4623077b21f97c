-- The laws of lines that are written anew.
--   Cutting  a text cut behind its first line; a text that is no lines
--   Turning  the lines of a text, those of an instruction and of kerns, as they are written
--   Standing the loop: what is written, and what is left; and the end
pub mod Cutting
pub mod Turning
pub mod Standing
