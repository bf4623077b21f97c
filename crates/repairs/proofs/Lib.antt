-- What is proved of repair. Theorems states it (specs/Purpose); the other files prove it:
--   Pushing     warnings that are written one after the other
--   Steps       number j of step i of the repaired program
--   Warned      where no warning is given, every test is false
--   Kept        a step of which no test holds is as it was lent
--   SameReach   what is reachable is the same in the repaired program
--   Once        of the repaired program, lent again, no test holds
--   Taken       the repaired font, lent again, is not refused
--   Loopless    without a warning of kind 10 the repaired font has no loop at any design size
--   Committing  asking, and committing with what it told
pub mod Pushing
pub mod Steps
pub mod Warned
pub mod Kept
pub mod SameReach
pub mod Once
pub mod Taken
pub mod Loopless
pub mod Committing
pub mod Theorems
