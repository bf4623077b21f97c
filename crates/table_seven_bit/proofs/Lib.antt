-- The laws of table_seven_bit.
--   Laws  the seven-bit test: by the tests of the code, in a table of the form
pub mod Laws
