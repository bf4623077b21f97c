-- The laws of one step. In the order in which they build on each other:
--   Changing  numbers taken out of a list with zeros behind and put into it, and the list after a change
--   Stepping  the contract, from what each way answers
pub mod Changing
pub mod Stepping
