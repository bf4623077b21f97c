-- The laws of `collect`.
--   Placing  the rows of one left
--   Lefts    left after left
--   Zeroed   rows in a work buffer that was zeroed, what is refused, and the reply
pub mod Placing
pub mod Lefts
pub mod Zeroed
