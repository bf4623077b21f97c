-- The definitions that compiling's passes (R287) go by, in the order in which they build on each other: what the passes leave in the rows.
-- The contract of `compile` needs none of them (crate `fonts`).
--   Rows         the work buffer, a row a pair
--   SettledRows  which rows finish, with which last
--   SettleSteps  the search that finds them
--   OpRows       how many ops a row and all rows have, and the pair table and the ops over the rows
--   LoopRows     the loop list over the rows
--   LoopSteps    the walks that find it, step by step
--   OpSteps      ops and pairs written, step by step
--   RowNumbers   every number of the rows as the first stage leaves them
--   PairRows     the rows of a font, and what their rules do
--   PairSteps    the same, step by step
pub mod Rows
pub mod SettledRows
pub mod SettleSteps
pub mod OpRows
pub mod LoopRows
pub mod LoopSteps
pub mod OpSteps
pub mod RowNumbers
pub mod PairRows
pub mod PairSteps
