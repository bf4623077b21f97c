-- The tests of a list that holds a chip: Standing.
pub mod Standing
