-- The laws of chips.
--   Theorems  what specs/Purpose states
--   Steps     what any step answers: no original is longer than its word, and no refusal is 0
--   Runs      the items of a run over a table of the form
--   Turns     what is known of a command that is taken
--   Blocks    the bytes that are shown
--   Traces    commands one after the other
--   Callers   calls by several callers
pub mod Steps
pub mod Runs
pub mod Turns
pub mod Blocks
pub mod Traces
pub mod Callers
pub mod Theorems
