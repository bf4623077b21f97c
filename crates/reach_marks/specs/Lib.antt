-- Crate reach_marks is held to Marks: read `reachable`, and then upwards (R148 to R150; TFtoPL 66 to 70). Reached states what the marks
-- mean, a theorem.
pub mod Marks
pub mod Reached
