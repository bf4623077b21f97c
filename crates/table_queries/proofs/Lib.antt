-- The laws of table_queries.
--   Laws  what else a host asks: by the tests of the code
pub mod Laws
