-- Definitions of crate table_form_pass: Parts (what is tested in one pass over the pairs).
pub mod Parts
