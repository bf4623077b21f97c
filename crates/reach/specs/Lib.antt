-- Crate reach is held to Reach: read the contract `Reaches`, and then upwards (R151 to R153; TFtoPL 75). Its marks are those of crate
-- reach_marks.
pub mod Reach
