-- Two lists compared by their words, and the warnings handed over beside those that were found: Comparing.
pub mod Comparing
