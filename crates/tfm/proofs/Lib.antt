-- Halving: the loop of TeX 572. Products: the bounds of TeX 571. Differences: of two naturals, as an integer.
-- TopByte: the answer by the top byte. Rounding: the nested divisions are one, rounded down. Replies: an answer is known from its reply.
-- Sizes: a size and a magnification, by their words. Theorems: what specs/Purpose states.
pub mod Halving
pub mod Products
pub mod Differences
pub mod TopByte
pub mod Rounding
pub mod Replies
pub mod Sizes
pub mod Theorems
