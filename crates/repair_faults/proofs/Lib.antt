-- Steps: what a test of a step shows, over plain values.
pub mod Steps
