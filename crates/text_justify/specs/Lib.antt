-- What the functions that write fields are held to.
--   InFields  numbers of a list in fields at a place, and when there is room for them
pub mod InFields
