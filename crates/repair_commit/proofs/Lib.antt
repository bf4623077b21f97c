-- What committing answers and leaves, by its parts: Committing.
pub mod Committing
