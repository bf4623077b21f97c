-- Laws of crate font_steps: Laws (a step with a request waiting, by the first free state).
pub mod Laws
