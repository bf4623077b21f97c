-- What is proved of all that is read.
pub mod Purpose
