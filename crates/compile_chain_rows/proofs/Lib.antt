-- The laws of `add_rows`.
--   Walking  the bits of a word walked by their trailing zeros, and word after word
pub mod Walking
