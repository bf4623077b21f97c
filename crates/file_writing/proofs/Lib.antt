-- Laws of a whole file (Whole).
pub mod Whole
