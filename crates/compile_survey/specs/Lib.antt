-- What the walk along one left's chain is held to.
--   Bits     the bits of a word, and of a list of words
--   Surveys  THE contract of `survey`: the rules of a chain, in three tables
pub mod Bits
pub mod Surveys
