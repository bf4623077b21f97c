-- Change of font during a caption, to be read in this order:
--   Requests  a font as it is lent; asking for one, and the start of a word: THE contracts of font_requests
--   Changes   a free state, and a step that may change the font: THE contract of font_steps
--   Passing   what the code goes by: one law
--   Shift     from a free state a run goes on as one over the rest of the word: a theorem
--   Purpose   whatever a host does, its answers are those of parts of words, each in one font: a theorem
pub mod Requests
pub mod Changes
pub mod Passing
pub mod Shift
pub mod Purpose
