-- What is proved of one removal's answer: Laws.
pub mod Laws
