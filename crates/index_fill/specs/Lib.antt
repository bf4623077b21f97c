-- An index while it is filled: Filling.
pub mod Filling
