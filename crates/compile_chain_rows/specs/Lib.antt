-- What the rows of one left are held to.
--   ChainRows  THE contract of `add_rows`: a row for each bit, in ascending order
pub mod ChainRows
