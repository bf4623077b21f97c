-- The definitions of captions, in the order in which to read them:
--   Tables   a pair table and its ops as they are lent, and how a pair is found
--   Form     the form of a table (R256 to R262), which begin checks
--   Replies  what is answered, as a number and values (R285)
--   Begin    a fresh run (R95 to R97)
--   Steps    one step (R98 to R118), over any table and any state
--   Beyond   codes above 255, which no font has (R371, R372)
--   Runs     any number of steps, as demand 3 speaks of them
--   Ending   after the end comes only the end (R114)
--   Demand3  what is proved of an accepted font (R14 to R23), in the terms of the calls
--   Queries  separation points, originals, and questions about a table (R119 to R127)
--   Letters  the letters of the items, joined, are the word (R381 to R386)
pub mod Tables
pub mod Form
pub mod Replies
pub mod Begin
pub mod Steps
pub mod Beyond
pub mod Runs
pub mod Ending
pub mod Queries
pub mod Demand3
pub mod Letters
