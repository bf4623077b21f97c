-- Two answers beside each other: Answers (the contract of same_answer).
pub mod Answers
