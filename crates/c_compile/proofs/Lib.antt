-- Laws of a font compiled for a host in C.
--   Replies  what a reply says of its number and its values
--   Counts   refused, or taken with its counts
pub mod Replies
pub mod Counts
