-- The laws of a text read.
--   Running    properties one after the other
--   Answering  the answer
pub mod Running
pub mod Answering
