-- The numbers of a line of a column text: LineNumbers.
pub mod LineNumbers
