-- What is proved of the call: Laws.
pub mod Laws
