-- What is proved of a request that waits: Waiting.
pub mod Waiting
