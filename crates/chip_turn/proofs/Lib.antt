-- Laws of crate chip_turn: Laws (a chip that stands; what is commanded, by its refusal).
pub mod Laws
