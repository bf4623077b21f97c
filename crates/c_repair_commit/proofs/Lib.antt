-- Laws: Telling, what a committed repair tells from what its function answers.
pub mod Telling
