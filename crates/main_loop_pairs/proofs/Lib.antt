-- The nodes that TeX's main loop makes, pair after pair: what a compiled entry says, and the letters and hits that a run keeps account of.
--   Held      a pair's ops as nodes: the first takes the left's letters and the left boundary
--   Pairs     one step of the lettered reading of a pair
--   Phases    all of them: the ops of the pair's entry as nodes
--   Made      the nodes of a word by a table of entries
--   Stopping  TeX's main loop makes these nodes, where every pair ends
pub mod Held
pub mod Pairs
pub mod Phases
pub mod Made
pub mod Stopping
