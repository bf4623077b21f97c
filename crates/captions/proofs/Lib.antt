-- The laws of captions.
--   Theorems   demand 3, whose statement is specs/Demand3; no letter lost, specs/Letters
--   Finding, Bisecting   a pair that is found has the key; on a table in ascending order every pair is found
--   Codes, FontCodes     every code in the reading of a font's pair is below 256
--   Decoding   what compile writes, as a list of finished pairs, and what the numbers of one of them say
--   Forming    such a list has the form of a table
--   FontPairs  a font's pairs, and those that finish, are in range and ascend
--   FontTable  the table that compile writes: its form, and what it holds
--   Raising    a left that is a ligature puts its flag into the first character op
--   Sound      the states that a run can be in, and the plain run that each stands for
--   Beyond     codes above 255: no font has a rule for one, and none is looked up: specs/Beyond
--   Giving, Following, Turning   a step answers as the plain run does: ops, what is given at once, and lefts that are looked up
--   Running    any number of steps from a fresh state
--   Lettered, Letters   a step gives the next letters of the word: ops and what is given at once, and lefts that are looked up
--   Joining    any number of steps: the letters joined are the first of the word, and at the end all of it
--   Replies    each reply determines its answer; the reply to a question
--   Ending     after the end comes only the end, for any table and state: specs/Ending
--   Passed     a number that is passed to a check of another crate
pub mod Finding
pub mod Bisecting
pub mod Codes
pub mod FontCodes
pub mod Decoding
pub mod Forming
pub mod FontPairs
pub mod FontTable
pub mod Raising
pub mod Sound
pub mod Giving
pub mod Following
pub mod Beyond
pub mod Turning
pub mod Running
pub mod Lettered
pub mod Letters
pub mod Joining
pub mod Ending
pub mod Replies
pub mod Theorems
pub mod Passed
