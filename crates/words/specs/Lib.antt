-- Definitions of crate words, to be read in this order: Words (a number and its 32 bits), Lists (lists written front to back), Replies
-- (an answer as a number and values).
pub mod Words
pub mod Lists
pub mod Replies
