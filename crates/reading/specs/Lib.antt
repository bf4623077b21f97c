-- The definitions of the one-by-one reading, in the order in which to read them:
--   Items    what stands left and right of the cursor, rules, and what a reading gives
--   Reading  THE definition (R64 to R76): one step, the reading of a list, of a pair and of a word
--   Depth    a pair computed by depth, which is what a compiled table holds, and what a pair waits for
--   Loops    the loop list (R83, R87 to R89)
--   Cycles   what that list is, said of cycles: one pair of each
--   Run      the plain run over a table of pairs, one item a step
--   Form     the form of a table's entry (R260 to R262)
-- What is proved of them is stated in proofs/Theorems.antt.
pub mod Items
pub mod Reading
pub mod Depth
pub mod Loops
pub mod Cycles
pub mod Run
pub mod Form
