-- The removals one after the other: Searching (the contract of search).
pub mod Searching
