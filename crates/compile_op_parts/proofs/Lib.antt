-- What the parts that are found are on rows whose rules are written: Laws.
pub mod Laws
