-- Laws of crate font_free: Laws (a left by the pair that is looked up, and a boundary that is passed).
pub mod Laws
