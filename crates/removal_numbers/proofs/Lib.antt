-- What is proved of what a removal brings: Theorems (specs/Purpose).
pub mod Theorems
