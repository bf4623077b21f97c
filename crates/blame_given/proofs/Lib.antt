-- What is proved of the answer: Giving (the number before any removal, and the search).
pub mod Giving
