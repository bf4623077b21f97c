-- What is proved of TeX's nodes and the run's answers.
--   Remaining what a state of a run has still to give, as nodes
--   Giving    an op, a last ligature or the end
--   Looking   a left that is looked up
--   Theorems  THE theorem: a run gives node for node what TeX gives
pub mod Remaining
pub mod Giving
pub mod Looking
pub mod Theorems
