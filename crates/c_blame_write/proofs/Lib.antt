-- What is proved of what is told: Laws.
pub mod Laws
