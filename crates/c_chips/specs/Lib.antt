-- A chip as a list of 91 numbers: ChipLists.
pub mod ChipLists
