-- Crate c_repair_ask is held to one file, Asking. How a reply is told otherwise is `Telling` of crate c_values.
pub mod Asking
