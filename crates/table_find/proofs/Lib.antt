-- The laws of table_find.
--   Bisection   the search of `find`: however many halvings there is room for, and turn by turn
pub mod Bisection
