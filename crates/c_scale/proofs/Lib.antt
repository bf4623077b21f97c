-- What is told of one kern scaled: Laws.
pub mod Laws
