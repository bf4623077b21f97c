-- The law of `write_lists`.
--   Building  the stages put together: what is refused, and what the lists hold
pub mod Building
