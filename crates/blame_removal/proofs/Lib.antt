-- What is proved of one removal: Answering (by compile's answer).
pub mod Answering
