-- Theorems states what is proved, and cites the proofs of the other files. In the order in which they build on each other:
--   Steps     readings of any length: determinism, locality, and what remains
--   Flags     laws of putting ligature flags into an entry
--   Right     the pair by depth: depth only grows, and a pair that finishes is read so
--   Formed    an entry of a finished pair has the form of a table's entry
--   Ends      a reading that ends has a depth
--   Never     a set of pairs closed under waiting never ends
--   Count     counting the members of a list that pass a test
--   Covers    what it is for a list to hold every pair that has a rule
--   Enough    how deep is deep enough
--   Complete  a pair that has not finished at that depth never ends
--   LoopList  the loop list is empty exactly when every pair ends
--   Cycles    the loop list has one pair of each cycle
--   Unkerned  the loop list, and how many ops a pair has, are those of the rules with kerns of zero
--   Holds     what it is for a table to hold a font's finished pairs
--   RunAll    the run as one list, and its steps
--   RunRight  the run gives what the reading gives
pub mod Steps
pub mod Flags
pub mod Right
pub mod Formed
pub mod Ends
pub mod Never
pub mod Count
pub mod Covers
pub mod Enough
pub mod Complete
pub mod LoopList
pub mod Cycles
pub mod Unkerned
pub mod Holds
pub mod RunAll
pub mod RunRight
pub mod Theorems
