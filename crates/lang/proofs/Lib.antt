-- Laws of general use:
--   Table     a rule at every place of a table, by one computation
--   Arms      what the `_` of a `match` on a number knows
--   Standard  the eight standard op bytes
--   Every     every index below a number passes a test
--   Bisection a search by halves, turn by turn, and over keys that ascend
--   Records   the numbers of an instruction
--   Refusals  refusals in a row, room, and the answer by the refusal
--   Filled    a list that is filled from the front, and the list by the refusal
--   Checks    what the refusals test: a sign, a letter, entries
--   Tables    the table of 257 places
--   Entered   entries that are taken are at most 256
pub mod Table
pub mod Arms
pub mod Standard
pub mod Every
pub mod Bisection
pub mod Records
pub mod Refusals
pub mod Filled
pub mod Checks
pub mod Tables
pub mod Entered
