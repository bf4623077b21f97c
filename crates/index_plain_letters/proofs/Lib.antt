-- Standing: letters that stand by the bits of an index. Theorems: a step by an index keeps the laws of a loop over letters.
pub mod Standing
pub mod Theorems
