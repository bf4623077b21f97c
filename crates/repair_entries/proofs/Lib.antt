-- Stores: laws of stores one after the other. Entering: laws of the passes over the entries.
pub mod Stores
pub mod Entering
