-- What crate lang, and the crates above it, are held to, in the order to read in:
--   Operations  what op bytes mean
--   Every       every index below a number passes a test
--   Bisection   a search by halves, over places that have keys
--   Records     the four numbers of an instruction, and the instruction that they are
--   Checks      the refusals 1 to 5 of what is lent, and what a letter is
--   Answers     what a function that fills a list answers, and what the list then holds
--   Entries     the table of 257 places: the entry of each left character and of the left boundary
pub mod Operations
pub mod Every
pub mod Bisection
pub mod Records
pub mod Checks
pub mod Answers
pub mod Entries
