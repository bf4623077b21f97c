-- What is proved of the search: Searching (the edited instructions, one removal, and the first answer of several).
pub mod Searching
