-- What is proved of a font compiled with no room for a loop: Lent (its numbers, and the empty loop list).
pub mod Lent
