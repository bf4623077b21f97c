-- Steps: what the steps of reading a field promise.
pub mod Steps
