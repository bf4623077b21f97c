-- What stands after each step of the one-by-one reading. In the order in which to read:
--   Standing  what stands, and one step of it, by `act` of crate `reading`
--   Lists     the same as a list of numbers, and THE contract of one_step
--   Purpose   that both are the same: a theorem
pub mod Standing
pub mod Lists
pub mod Purpose
