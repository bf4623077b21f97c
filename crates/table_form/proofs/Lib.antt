-- The laws of table_form.
--   KeyLaws  a pair's place in the order, by the pair before it
--   Entries  a record that fits: the end of its ops
pub mod KeyLaws
pub mod Entries
