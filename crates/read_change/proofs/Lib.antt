-- The laws of what a rule changes.
--   Moving   numbers taken out of a list and put into it, one place more and all of them
--   Placing  what a rule does, as numbers, is what takes the place of the two
pub mod Moving
pub mod Placing
