-- Laws of crate chip_begin: Laws (what is commanded, by its refusal, and what begin answers).
pub mod Laws
