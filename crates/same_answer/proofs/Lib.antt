-- What is proved of two answers: Laws.
pub mod Laws
