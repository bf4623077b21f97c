-- What is proved of the refusals: Replies (the number of begin's answer).
pub mod Replies
