-- The number of a text that is written anew.
--   Judging  from what it says, and how long it becomes
pub mod Judging
