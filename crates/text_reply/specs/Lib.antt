-- What the functions below write_reply are held to; the contract of write_reply itself is `Replying` of crate columns.
--   Sizes  a length that is counted no further than 65,537; the bytes of the pair table
pub mod Sizes
