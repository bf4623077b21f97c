-- Leading: the blanks that a field starts with, and where it ends. Decimals: what stands after them, digit by digit.
pub mod Leading
pub mod Decimals
