-- A run gives node for node what TeX gives.
--   Purpose   answers as nodes, with letters and subtypes, and the theorem
pub mod Purpose
