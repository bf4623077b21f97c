-- What a rule changes in a list of items.
--   Changes  what a rule does with the two at the cursor, as numbers
--   Fitted   lists of a length: numbers taken out, and put in
pub mod Changes
pub mod Fitted
