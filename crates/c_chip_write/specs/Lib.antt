-- What is changed of a chip in a list: Changes, over c_chips/specs/ChipLists.
pub mod Changes
