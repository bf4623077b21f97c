-- Laws of crate font_requests: Laws (a request by its refusal, and by what begin answers).
pub mod Laws
