-- Laws of crate c_font_requests: Laws (what is told of a request).
pub mod Laws
