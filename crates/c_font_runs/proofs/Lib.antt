-- Laws of crate c_font_runs: Laws (numbers that are a run's, and a run that is put into a list).
pub mod Laws
