-- The definitions of an index over a pair table, in the order in which to read them:
--   Index    the index of a table, and a pair looked up in any index
--   Purpose  what is proved of them: in the index of a table a look-up finds what bisection finds
pub mod Index
pub mod Purpose
