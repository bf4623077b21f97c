-- The laws of table_numbers.
--   Records     what fits, from the words that were read
--   Past        a number past the end
pub mod Past
pub mod Records
