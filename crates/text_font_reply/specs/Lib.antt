-- What the functions of this crate are held to: Answering. What a font and a word are answered with is `columnNumber` and `columnBytes`
-- of crate columns (specs/Ligcols).
pub mod Answering
