-- Text for people.
--   Phrases  text put into a list, and numbers and characters as text
pub mod Phrases
