-- The laws of a font's answer (Laws): a table with its items, a font with its word.
pub mod Laws
