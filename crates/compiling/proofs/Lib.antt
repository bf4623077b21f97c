-- The laws of compiling's passes, each file over the definitions of the same concern, in the order in which they build on each other.
--   RowLaws      a number stored and read again, the row of a pair, and what a pass keeps
--   RowSearch       the row of a pair by bisection
--   Tally        how many rows have a status
--   Known        the pairs that have finished so far
--   Stores       the stores of a step of the search
--   Settling     the state of the search, and that each step keeps it
--   SettleLaws      a turn, the search from one row, and row after row
--   OpLaws       the parts of a row's ops, and how many ops come before them
--   Segments     stores in a row
--   FieldLaws       passes that store a number of each row
--   OpTables       the ops and the pair table as they are written
--   TableCount     how many rows finish
--   EncodeLaws   what the two numbers of a rule say
--   PairRowLaws  a chain walked once, the rows of one left, and all lefts
--   Tied         rows and the font's rules agree
--   Sorted       sorting by the order of walks
--   LoopLaws     the walks over the rows give the loop list
--   RowNumberLaws  every number of the rows that hold a list of pairs
pub mod RowLaws
pub mod RowSearch
pub mod Tally
pub mod Known
pub mod Stores
pub mod Settling
pub mod SettleLaws
pub mod OpLaws
pub mod Segments
pub mod FieldLaws
pub mod OpTables
pub mod TableCount
pub mod EncodeLaws
pub mod PairRowLaws
pub mod Tied
pub mod Sorted
pub mod LoopLaws
pub mod RowNumberLaws
