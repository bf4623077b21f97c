-- The laws of digits that are written.
--   Stores   runs of stores in a list, and a run of equal values that is written over at its end
--   Decimal  two digits as one number, the digits of a number, written from the right, and a field
pub mod Stores
pub mod Decimal
