-- Definitions of crate test_requests: Requests (the lists among the numbers of a request), Answers (the numbers of an answer).
pub mod Requests
pub mod Answers
